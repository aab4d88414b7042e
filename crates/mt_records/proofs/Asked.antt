-- What records ask for, one by one.
use Rattle.std.proofs.Common.{◌≡◌, ℕ, ◌+◌, ◌<◌, ◌≤◌, List, [], ◌∷◌, ◌++◌, length, drop, get_or, Result, Ok, Err, refl, sym, ap, ◌∙◌, append_assoc, append-nil}
use Rattle.std.proofs.lemmas.List.{at_drop_all, at_drop_more}
use Rattle.mt_types.specs.declared.task.TaskFailure.{TaskFailure}
use Rattle.mt_types.specs.declared.task.TaskRecord.{TaskRecord}
use Rattle.mt_records.specs.declared.range.Range.{Range}
use Rattle.mt_records.specs.declared.record.RawRecord.{RawRecord}
use Rattle.mt_records.specs.Fate.{and_then, task_record, task_records}

abbrev pub Asked : Type 0
Asked = Result (List (TaskRecord Range)) TaskFailure

-- these, and then those of the rest
abbrev pub behind : List (TaskRecord Range) → Asked → Asked
behind done rest = and_then rest (λ ts. Ok (done ++ ts))

behind_more : (done : List (TaskRecord Range)) (t : TaskRecord Range) (rest : Asked) → behind done (and_then rest (λ ts. Ok (t ∷ ts))) ≡ behind (done ++ t ∷ []) rest
behind_more done t (Ok ts) = ap (λ (l : List (TaskRecord Range)). Ok l) (sym (append_assoc done (t ∷ []) ts))
behind_more done t (Err e) = refl

module _ (login : List ℕ) (records : List (RawRecord Range)) where
  next_record : (i : ℕ) (r : RawRecord Range) → i < length records → r ≡ get_or records i r
      → task_records login (drop i records) ≡ and_then (task_record login r) (λ t. and_then (task_records login (drop (i + 1) records)) (λ ts. Ok (t ∷ ts)))
  next_record i r within is =
      at_drop_more (task_records login) records i r within
      ∙ ap (λ (q : RawRecord Range). and_then (task_record login q) (λ t. and_then (task_records login (drop (i + 1) records)) (λ ts. Ok (t ∷ ts)))) (sym is)

  -- one record more
  pub asked_more : (i : ℕ) (r : RawRecord Range) (t : TaskRecord Range) (done : List (TaskRecord Range)) → i < length records → r ≡ get_or records i r → task_record login r ≡ Ok t
      → behind (done ++ t ∷ []) (task_records login (drop (i + 1) records)) ≡ behind done (task_records login (drop i records))
  asked_more i r t done within is one =
      sym (ap (behind done) (next_record i r within is ∙ ap (λ (a : Result (TaskRecord Range) TaskFailure). and_then a (λ x. and_then (task_records login (drop (i + 1) records)) (λ ts. Ok (x ∷ ts)))) one)
      ∙ behind_more done t (task_records login (drop (i + 1) records)))

  -- a failure ends it
  pub asked_fails : (i : ℕ) (r : RawRecord Range) (e : TaskFailure) (done : List (TaskRecord Range)) → i < length records → r ≡ get_or records i r → task_record login r ≡ Err e
      → behind done (task_records login (drop i records)) ≡ Err e
  asked_fails i r e done within is one =
      ap (behind done) (next_record i r within is ∙ ap (λ (a : Result (TaskRecord Range) TaskFailure). and_then a (λ x. and_then (task_records login (drop (i + 1) records)) (λ ts. Ok (x ∷ ts)))) one)

  -- all of them
  pub asked_all : (i : ℕ) (done : List (TaskRecord Range)) → length records ≤ i → behind done (task_records login (drop i records)) ≡ Ok done
  asked_all i done past = ap (behind done) (at_drop_all (task_records login) records i past) ∙ ap (λ (l : List (TaskRecord Range)). Ok l) (append-nil done)
