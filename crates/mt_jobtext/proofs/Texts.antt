-- What is written piece by piece is the compact text of a value.
use Rattle.std.proofs.Common.{◌≡◌, ℕ, Bool, true, false, List, [], ◌∷◌, ◌++◌, map, length, Option, Some, None, refl, ap, ◌∙◌, append_assoc}
use Rattle.std.specs.Prelude.{codes, decimal}
use Rattle.std.specs.Str.Lossy.{utf8_lossy}
use Rattle.json.specs.Print.{escape, escape_byte, quoted}
use Rattle.serde_json.specs.Data.{Data, string}
use Rattle.serde_json.specs.View.{items_of}
use Rattle.serde_json.specs.Written.{comma_if, compact_text, items_text}
use Rattle.mt_jobdoc.specs.Printed.{assets_data, phase_data, phases_data, type_name}
use Rattle.mt_model.specs.Feed.{items_of as made}
use Rattle.mt_model.specs.Finished.{outputs_of}
use Rattle.mt_path.specs.AccountPath.{AccountPath, path_text}
use Rattle.mt_types.specs.declared.document.JobDocument.{JobDocument}
use Rattle.mt_types.specs.declared.document.PhaseKind.{PhaseKind}
use Rattle.mt_types.specs.declared.document.PhaseKind.TheVariants.{Map, Reduce}
use Rattle.mt_types.specs.declared.job.Job.{Job}
use Rattle.mt_types.specs.declared.job.TraceEntry.{TraceEntry}
use Rattle.mt_types.specs.declared.task.TaskFailure.{TaskFailure}
use Rattle.mt_jobtext.specs.Ended.{stats_text}
use Rattle.mt_jobtext.specs.JobTexts.{errors_of, failure_code, failure_message, line, missing_error, outcome_word, stats_data, status_data, task_data, task_error}
use Rattle.mt_jobtext.specs.Members.{count_text, init_text, input_text, listed, reducer_text}
use Rattle.mt_jobtext.specs.Pieces.{HasStats}
use Rattle.mt_jobtext.specs.StatusPieces.{status_front, status_rest}
use Rattle.mt_jobtext.specs.declared.stats.Stats.{Stats}

pub missing_text : (text : List ℕ)
    → codes "{\"code\":\"ResourceNotFound\",\"input\":\"" ++ (escape text ++ (codes "\",\"message\":\"no such object\",\"phase\":" ++ (decimal 0 ++ codes "}\n")))
    ≡ line (compact_text (missing_error text))
unfolding missing_error escape_byte
missing_text text = simp append_assoc

pub failed_text : (input : Option (List ℕ)) (reducer : Option ℕ) (phase : ℕ) (failure : TaskFailure) (status : ℕ) (stderr : List ℕ)
    → codes "{\"code\":" ++ (quoted (failure_code failure) ++ (input_text input ++ (codes ",\"message\":" ++ (quoted (failure_message failure)
    ++ (codes ",\"phase\":" ++ (decimal phase ++ (reducer_text reducer ++ (codes ",\"status\":" ++ (decimal status
    ++ (codes ",\"stderr\":" ++ (quoted (utf8_lossy stderr) ++ codes "}\n")))))))))))
    ≡ line (compact_text (task_error input reducer phase failure status stderr))
unfolding task_error escape_byte
failed_text None None phase failure status stderr = simp append_assoc
failed_text None (Some n) phase failure status stderr = simp append_assoc
failed_text (Some name) None phase failure status stderr = simp append_assoc
failed_text (Some name) (Some n) phase failure status stderr = simp append_assoc

module _ {B : Type 0} where
  pub task_text : (e : TraceEntry B)
      → codes "{\"outputs\":" ++ (decimal (length (made e.outcome)) ++ (codes ",\"phase\":" ++ (decimal e.phase ++ (codes ",\"place\":" ++ (decimal e.place
      ++ (codes ",\"position\":" ++ (decimal e.position ++ (codes ",\"state\":" ++ (quoted (outcome_word e.outcome) ++ codes "}\n")))))))))
      ≡ line (compact_text (task_data e))
  unfolding task_data escape_byte
  task_text e = simp append_assoc

  stats_same : (login : List ℕ) (job : Job B) (a b c d : ℕ) → a ≡ length (errors_of login job) → b ≡ length job.inputs → c ≡ length (outputs_of job) → d ≡ length job.trace
      → stats_text (record { errors = a; inputs = b; outputs = c; tasks = d }) ≡ compact_text (stats_data login job)
  unfolding stats_data escape_byte
  stats_same login job a b c d errors inputs outputs tasks =
      (λ k. stats_text (record { errors = errors k; inputs = inputs k; outputs = outputs k; tasks = tasks k })) ∙ simp append_assoc

  pub stats_written : (login : List ℕ) (job : Job B) (stats : Stats) → HasStats job stats → stats_text stats ≡ compact_text (stats_data login job)
  stats_written login job stats has = stats_same login job stats.errors stats.inputs stats.outputs stats.tasks (has.errors login) has.inputs has.outputs has.tasks

  pub status_written : (login : List ℕ) (job : Job B) → status_front job ++ (escape job.document.name ++ status_rest login job) ≡ compact_text (status_data login job)
  unfolding status_front status_rest status_data escape_byte
  status_written login job = simp append_assoc

-- a list in brackets
listed_items : {X : Type 0} (f : X → Data) (later : Bool) (xs : List X) → listed later (map (λ x. compact_text (f x)) xs) ++ 93 ∷ [] ≡ items_text later (items_of (map f xs))
listed_items f later [] = refl
listed_items f later (x ∷ xs) =
    append_assoc (comma_if later) (compact_text (f x) ++ listed true (map (λ y. compact_text (f y)) xs)) (93 ∷ [])
    ∙ ap (λ (l : List ℕ). comma_if later ++ l)
    (append_assoc (compact_text (f x)) (listed true (map (λ y. compact_text (f y)) xs)) (93 ∷ []) ∙ ap (λ (l : List ℕ). compact_text (f x) ++ l) (listed_items f true xs))

pub phases_written : (login : List ℕ) (d : JobDocument)
    → codes "[" ++ (listed false (map (λ p. compact_text (phase_data login p)) d.phases) ++ codes "]") ≡ compact_text (phases_data login d)
unfolding phases_data
phases_written login d = ap (λ (l : List ℕ). 91 ∷ l) (listed_items (phase_data login) false d.phases)

pub assets_written : (login : List ℕ) (assets : List AccountPath)
    → codes "[" ++ (listed false (map (λ p. quoted (path_text login p)) assets) ++ codes "]") ≡ compact_text (assets_data login assets)
assets_written login assets = ap (λ (l : List ℕ). 91 ∷ l) (listed_items (λ p. string (path_text login p)) false assets)

pub phase_written : (login : List ℕ) (kind : PhaseKind) (exec : List ℕ) (init : Option (List ℕ)) (assets : List AccountPath)
    → codes "{\"assets\":" ++ (compact_text (assets_data login assets) ++ (count_text kind ++ (codes ",\"exec\":" ++ (quoted exec ++ (init_text init
    ++ (codes ",\"type\":" ++ (quoted (type_name kind) ++ codes "}")))))))
    ≡ compact_text (phase_data login (record { kind = kind; exec = exec; init = init; assets = assets }))
unfolding phase_data escape_byte
phase_written login Map exec None assets = simp append_assoc
phase_written login Map exec (Some init) assets = simp append_assoc
phase_written login (Reduce count) exec None assets = simp append_assoc
phase_written login (Reduce count) exec (Some init) assets = simp append_assoc
