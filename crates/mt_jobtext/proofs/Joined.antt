-- The pieces of a text, joined, are the text.
use Rattle.std.proofs.Common.{◌≡◌, ℕ, zero, suc, ◌+◌, ◌==◌, Bool, true, false, cond, List, [], ◌∷◌, ◌++◌, map, length, Option, Some, None, option_map, refl, sym, ap, ◌∙◌, arith, append-nil, inl, inr}
use Rattle.std.specs.List.{cons_option, filter, filter_map, flat_map, slice_get}
use Rattle.std.specs.Option.{option_and_then}
use Rattle.std.proofs.lemmas.Bool.{eq-eqb, ne_eqb}
use Rattle.std.proofs.lemmas.Bool.Decides.{eqb_tells}
use Rattle.std.proofs.lemmas.Grind.{flat_map-append}
use Rattle.json.specs.Print.{escape}
use Rattle.serde_json.specs.Data.{Data}
use Rattle.serde_json.specs.Written.{compact_text}
use Rattle.mt_path.specs.AccountPath.{path_text}
use Rattle.mt_types.specs.declared.document.InputLine.{InputLine}
use Rattle.mt_types.specs.declared.job.Item.{Item}
use Rattle.mt_types.specs.declared.job.Job.{Job}
use Rattle.mt_types.specs.declared.job.TraceEntry.{TraceEntry}
use Rattle.mt_model.specs.Feed.{entries_of, feed, items_in, items_of}
use Rattle.mt_model.specs.Finished.{live_out}
use Rattle.mt_model.specs.Tasks.{object_read}
use Rattle.mt_jobtext.specs.Ended.{ended_as}
use Rattle.mt_jobtext.specs.JobTexts.{error_where_bad, errors_of, failed_error, failed_name, line, missing_error, name_where_bad, names_failed, names_missing, posted_text, reducer_of_task, task_data, text_of}
use Rattle.mt_jobtext.specs.Pieces.{HasStats, first_pieces, adding_tasks, joined_pieces, line_of, output_lines, pieces_of, shown_text, task_piece}
use Rattle.mt_jobtext.specs.StatusPieces.{part_count, part_of, status_front, status_pieces, status_rest}
use Rattle.mt_jobtext.specs.declared.pieces.Shown.{Shown}
use Rattle.mt_jobtext.specs.declared.stats.Stats.{Stats}
use Rattle.mt_jobtext.specs.declared.status.Ending.{Ending}
use Rattle.mt_types.specs.declared.live.LiveText.{LiveText}
use Rattle.mt_types.specs.declared.live.LiveText.TheVariants as live
use Rattle.mt_jobtext.proofs.Cut.{cut_joined, parts_escaped}
use Rattle.mt_jobtext.proofs.Texts.{status_written}

picked : (b : Bool) → cond b live.In live.Out ≡ live.Status → live.Out ≡ live.Status
picked true is = cc
picked false is = is

one_line : {Y : Type 0} (g : Y → List ℕ) (o : Option Y) (ys : List Y) → flat_map (λ y. line (g y)) (cons_option o ys) ≡ line_of (option_map g o) ++ flat_map (λ y. line (g y)) ys
one_line g None ys = refl
one_line g (Some y) ys = refl

module _ {X Y : Type 0} where
  pub lines_of_map : (f : Y → List ℕ) (g : X → Y) (xs : List X) → flat_map f (map g xs) ≡ flat_map (λ x. f (g x)) xs
  lines_of_map f g [] = refl
  lines_of_map f g (x ∷ xs) = ap (λ (l : List ℕ). f (g x) ++ l) (lines_of_map f g xs)

  lines_of_some : (g : Y → List ℕ) (h : X → Option Y) (xs : List X) → flat_map (λ y. line (g y)) (filter_map h xs) ≡ flat_map (λ x. line_of (option_map g (h x))) xs
  lines_of_some g h [] = refl
  lines_of_some g h (x ∷ xs) = one_line g (h x) (filter_map h xs) ∙ ap (λ (l : List ℕ). line_of (option_map g (h x)) ++ l) (lines_of_some g h xs)

same_line : (o : Option (List ℕ)) (ys : List (List ℕ)) → flat_map line (cons_option o ys) ≡ line_of o ++ flat_map line ys
same_line None ys = refl
same_line (Some y) ys = refl

module _ {X : Type 0} where
  lines_where : (h : X → Option (List ℕ)) (xs : List X) → flat_map line (filter_map h xs) ≡ flat_map (λ x. line_of (h x)) xs
  lines_where h [] = refl
  lines_where h (x ∷ xs) = same_line (h x) (filter_map h xs) ∙ ap (λ (l : List ℕ). line_of (h x) ++ l) (lines_where h xs)

whole : (xs : List (List ℕ)) → flat_map (λ piece. piece) (xs ++ []) ≡ flat_map (λ piece. piece) xs
whole xs = ap (flat_map (λ piece. piece)) (append-nil xs)

joined_map : {X : Type 0} (f : X → List ℕ) (xs : List X) → flat_map (λ piece. piece) (map f xs) ≡ flat_map f xs
joined_map f xs = lines_of_map (λ piece. piece) f xs

-- the phase before the last
last_same : (phase n : ℕ) → (phase + 1 == suc n) ≡ (phase == n)
last_same phase n =
    elim (eqb_tells phase n) [
      | inl same ↦ let is : phase ≡ n = same.1 in eq-eqb (phase + 1) (suc n) (omega arith) ∙ sym same.0
      | inr other ↦ ne_eqb (phase + 1) (suc n) (λ e. other.1 (omega arith)) ∙ sym other.0
    ]

module _ {B : Type 0} where
  feed_ended : (job : Job B) (ending : Ending) (phase : ℕ) → feed (ended_as job ending) phase ≡ feed job phase
  feed_ended job ending zero = refl
  feed_ended job ending (suc phase) = refl

  errors_ended : (login : List ℕ) (job : Job B) (ending : Ending) → errors_of login (ended_as job ending) ≡ errors_of login job
  errors_ended login job ending = λ k. map missing_error (names_missing login job)
      ++ filter_map (λ e. error_where_bad (option_and_then (λ p. object_read login p.kind (feed_ended job ending e.phase k) e.place) (slice_get job.document.phases e.phase))
      (reducer_of_task job e.phase e.place) e.phase e.outcome) job.trace

  names_ended : (login : List ℕ) (job : Job B) (ending : Ending) → names_failed login (ended_as job ending) ≡ names_failed login job
  names_ended login job ending = λ k. names_missing login job
      ++ filter_map (λ e. name_where_bad (option_and_then (λ p. object_read login p.kind (feed_ended job ending e.phase k) e.place) (slice_get job.document.phases e.phase)) e.outcome) job.trace

  -- the numbers of a job are those of the job with another end
  pub stats_ended : (job : Job B) (ending : Ending) (stats : Stats) → HasStats job stats → HasStats (ended_as job ending) stats
  stats_ended job ending stats has = record {
    errors = λ login. has.errors login ∙ ap length (sym (errors_ended login job ending));
    inputs = has.inputs;
    outputs = has.outputs ∙ ap length (sym (feed_ended job ending (length job.document.phases)));
    tasks = has.tasks;
  }

  -- only the status is shown for the status
  pub status_asked : (job : Job B) (text : LiveText) → shown_text job text ≡ live.Status → text ≡ live.Status
  status_asked job live.In is = is
  status_asked job live.Out is = picked (length job.document.phases == 0) is
  status_asked job live.Fail is = is
  status_asked job live.Err is = is
  status_asked job live.Tasks is = is
  status_asked job live.Status is = refl

  -- ---- outputs

  abbrev item_line : List ℕ → Item B → List ℕ
  item_line login i = line (path_text login i.name)

  one_task : (login : List ℕ) (b : Bool) (e : TraceEntry B) (es : List (TraceEntry B))
      → cond b (flat_map (item_line login) (items_of e.outcome)) [] ++ flat_map (item_line login) (items_in es) ≡ flat_map (item_line login) (items_in (cond b (e ∷ es) es))
  one_task login true e es = sym (flat_map-append (item_line login) (items_of e.outcome) (items_in es))
  one_task login false e es = refl

  tasks_joined : (login : List ℕ) (n : ℕ) (es : List (TraceEntry B)) → flat_map (output_lines login (suc n)) es ≡ flat_map (item_line login) (items_in (entries_of n es))
  tasks_joined login n [] = refl
  tasks_joined login n (e ∷ es) =
      (λ k. cond (last_same e.phase n k) (flat_map (item_line login) (items_of e.outcome)) [] ++ tasks_joined login n es k)
      ∙ one_task login (e.phase == n) e (filter (λ d. d.phase == n) es)

  outputs_joined : (login : List ℕ) (job : Job B) (n : ℕ) → length job.document.phases ≡ suc n → flat_map (output_lines login (length job.document.phases)) job.trace ≡ live_out login job
  outputs_joined login job n is =
      ap (λ (count : ℕ). flat_map (output_lines login count) job.trace) is
      ∙ tasks_joined login n job.trace
      ∙ sym (lines_of_map line (λ (i : Item B). path_text login i.name) (items_in (entries_of n job.trace)))
      ∙ ap (λ (count : ℕ). flat_map line (map (λ (i : Item B). path_text login i.name) (feed job count))) (sym is)

  -- ---- the texts

  abbrev pieces : List ℕ → Job B → Ending → LiveText → List ℕ
  pieces login job ending text = flat_map (λ piece. piece) (first_pieces login job ending text ++ map (task_piece login job text) (adding_tasks job text))

  in_joined : (login : List ℕ) (job : Job B) (ending : Ending) → pieces login job ending live.In ≡ text_of login (ended_as job ending) live.In
  in_joined login job ending =
      whole (map (item_line login) job.inputs) ∙ joined_map (item_line login) job.inputs ∙ sym (lines_of_map line (λ (i : Item B). path_text login i.name) job.inputs)

  fail_joined : (login : List ℕ) (job : Job B) (ending : Ending) → pieces login job ending live.Fail ≡ text_of login (ended_as job ending) live.Fail
  fail_joined login job ending =
      flat_map-append (λ piece. piece) (map (λ (l : InputLine). line (posted_text login l)) job.missing) (map (λ (e : TraceEntry B). line_of (failed_name login job e)) job.trace)
      ∙ (λ k. (joined_map (λ (l : InputLine). line (posted_text login l)) job.missing ∙ sym (lines_of_map line (posted_text login) job.missing)) k
      ++ (joined_map (λ (e : TraceEntry B). line_of (failed_name login job e)) job.trace ∙ sym (lines_where (failed_name login job) job.trace)) k)
      ∙ sym (flat_map-append line (names_missing login job) (filter_map (failed_name login job) job.trace))
      ∙ ap (flat_map line) (sym (names_ended login job ending))

  err_joined : (login : List ℕ) (job : Job B) (ending : Ending) → pieces login job ending live.Err ≡ text_of login (ended_as job ending) live.Err
  err_joined login job ending =
      let first = λ (l : InputLine). line (compact_text (missing_error (posted_text login l))) in
      let last = λ (e : TraceEntry B). line_of (option_map compact_text (failed_error login job e)) in
      let value_line = λ (d : Data). line (compact_text d) in
      flat_map-append (λ piece. piece) (map first job.missing) (map last job.trace)
      ∙ (λ k. (joined_map first job.missing ∙ sym (lines_of_map (λ (t : List ℕ). value_line (missing_error t)) (posted_text login) job.missing) ∙ sym (lines_of_map value_line missing_error (names_missing login job))) k
      ++ (joined_map last job.trace ∙ sym (lines_of_some compact_text (failed_error login job) job.trace)) k)
      ∙ sym (flat_map-append value_line (map missing_error (names_missing login job)) (filter_map (failed_error login job) job.trace))
      ∙ sym (lines_of_map line compact_text (errors_of login job))
      ∙ ap (λ (ds : List Data). flat_map line (map compact_text ds)) (sym (errors_ended login job ending))

  tasks_text : (login : List ℕ) (job : Job B) (ending : Ending) → pieces login job ending live.Tasks ≡ text_of login (ended_as job ending) live.Tasks
  tasks_text login job ending =
      joined_map (λ (e : TraceEntry B). line (compact_text (task_data e))) job.trace
      ∙ sym (lines_of_map (λ (d : Data). line (compact_text d)) task_data job.trace)
      ∙ sym (lines_of_map line compact_text (map task_data job.trace))

  status_joined : (login : List ℕ) (job : Job B) (ending : Ending) → pieces login job ending live.Status ≡ text_of login (ended_as job ending) live.Status
  status_joined login job ending =
      let ended = ended_as job ending in
      whole (status_pieces login ended)
      ∙ cut_joined (status_front ended) (status_rest login ended) (λ k. escape (part_of job.document.name k)) (part_count job.document.name)
      ∙ ap (λ (name : List ℕ). status_front ended ++ (name ++ status_rest login ended)) (parts_escaped job.document.name)
      ∙ status_written login ended

  out_joined : (login : List ℕ) (job : Job B) (ending : Ending) (n : ℕ) → length job.document.phases ≡ n → pieces login job ending (cond (n == 0) live.In live.Out) ≡ text_of login (ended_as job ending) live.Out
  out_joined login job ending zero is =
      in_joined login job ending ∙ ap (λ (count : ℕ). flat_map line (map (λ (i : Item B). path_text login i.name) (feed (ended_as job ending) count))) (sym is)
  out_joined login job ending (suc n) is =
      ap (λ (b : Bool). pieces login job ending (cond b live.In live.Out)) (ne_eqb (suc n) 0 (λ e. absurd (omega (arith, e))))
      ∙ joined_map (output_lines login (length job.document.phases)) job.trace ∙ outputs_joined login job n is
      ∙ ap (λ (items : List (Item B)). flat_map line (map (λ i. path_text login i.name) items)) (sym (feed_ended job ending (length job.document.phases)))

  by_text : (login : List ℕ) (job : Job B) (ending : Ending) (text : LiveText) → pieces login job ending (shown_text job text) ≡ text_of login (ended_as job ending) text
  by_text login job ending live.In = in_joined login job ending
  by_text login job ending live.Out = out_joined login job ending (length job.document.phases) refl
  by_text login job ending live.Fail = fail_joined login job ending
  by_text login job ending live.Err = err_joined login job ending
  by_text login job ending live.Tasks = tasks_text login job ending
  by_text login job ending live.Status = status_joined login job ending

  pub pieces_joined : (s : Shown B) (text : LiveText) → s.text ≡ shown_text s.kept.now.job text → joined_pieces s ≡ text_of s.login.now (ended_as s.kept.now.job s.ending) text
  unfolding pieces_of
  pieces_joined s text is = ap (pieces s.login.now s.kept.now.job s.ending) is ∙ by_text s.login.now s.kept.now.job s.ending text

  -- the lines of inputs, and of outputs
  pub inputs_are : (s : Shown B) → s.text ≡ live.In → joined_pieces s ≡ flat_map (λ (i : Item B). line (path_text s.login.now i.name)) s.kept.now.job.inputs
  unfolding pieces_of
  inputs_are s is = ap (pieces s.login.now s.kept.now.job s.ending) is ∙ whole (map (item_line s.login.now) s.kept.now.job.inputs) ∙ joined_map (item_line s.login.now) s.kept.now.job.inputs

  pub outputs_are : (s : Shown B) → s.text ≡ live.Out → joined_pieces s ≡ flat_map (output_lines s.login.now (length s.kept.now.job.document.phases)) s.kept.now.job.trace
  unfolding pieces_of
  outputs_are s is = ap (pieces s.login.now s.kept.now.job s.ending) is ∙ joined_map (output_lines s.login.now (length s.kept.now.job.document.phases)) s.kept.now.job.trace
