-- The status of a job cut in pieces: what stands before its name, the name in parts, and what stands behind it.
use Rattle.std.specs.Prelude.{ℕ, ◌+◌, ◌*◌, ◌/◌, List, [], ◌∷◌, ◌++◌, map, length, take, drop, codes, Some}
use Rattle.std.specs.List.{range_with_len}
use Rattle.json.specs.Print.{escape, quoted}
use Rattle.serde_json.specs.Data.{boolean}
use Rattle.serde_json.specs.Written.{compact_text}
use Rattle.mt_jobdoc.specs.Printed.{phases_data}
use Rattle.mt_types.specs.declared.job.Job.{Job}
use Rattle.mt_model.specs.Names.{job_name}
use Rattle.mt_jobtext.specs.JobTexts.{state_word, stats_data, time_data}

-- a part of a text, of at most 4,096 bytes
abbrev pub part_of : List ℕ → ℕ → List ℕ
part_of text k = take 4096 (drop (k * 4096) text)

-- how many parts it has, of which the last may have fewer bytes, or none
abbrev pub part_count : List ℕ → ℕ
part_count text = length text / 4096 + 1

module _ {B : Type 0} where
  -- before the name
  unfoldable pub status_front : Job B → List ℕ
  status_front job =
      codes "{\"cancelled\":" ++ (compact_text (boolean job.cancelled) ++ (codes ",\"id\":" ++ (quoted (job_name job.number)
      ++ (codes ",\"inputDone\":" ++ (compact_text (boolean job.ended) ++ codes ",\"name\":\"")))))

  -- behind it
  unfoldable pub status_rest : List ℕ → Job B → List ℕ
  status_rest login job =
      codes "\",\"phases\":" ++ (compact_text (phases_data login job.document) ++ (codes ",\"state\":" ++ (quoted (state_word job.done)
      ++ (codes ",\"stats\":" ++ (compact_text (stats_data login job) ++ (codes ",\"timeCreated\":" ++ (compact_text (time_data (Some job.created))
      ++ (codes ",\"timeDone\":" ++ (compact_text (time_data job.done) ++ codes "}")))))))))

  -- and all of it
  abbrev pub status_pieces : List ℕ → Job B → List (List ℕ)
  status_pieces login job =
      status_front job
      ∷ (map (λ k. escape (part_of job.document.name k)) (range_with_len 0 (part_count job.document.name)) ++ status_rest login job ∷ [])
