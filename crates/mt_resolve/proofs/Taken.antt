-- Records taken one after another.
use Rattle.std.proofs.Common.{◌≡◌, ℕ, ◌+◌, ◌<◌, true, false, List, [], ◌∷◌, ◌++◌, length, length-append, take, drop, get_or, Option, Some, None, refl, sym, ap, ◌∙◌, arith}
use Rattle.std.specs.Prelude.{Result, Ok, Err, is_some}
use Rattle.std.proofs.lemmas.List.{take-append-drop, take-append-le, take_more}
use Rattle.std.proofs.Math.Seq.{take-append-add}
use Rattle.mt_types.specs.declared.task.TaskFailure.{TaskFailure}
use Rattle.mt_types.specs.declared.task.TaskRecord.{TaskRecord}
use Rattle.mt_model.specs.Resolve.{Committing, Taken, and_then, take_record, take_records}
use Rattle.mt_resolve.specs.Taking.{AreReadyFrom, taken_or}

module _ {B : Type 0} where
  records_append : (c : Committing) (xs ys : List (TaskRecord B)) (t : Result (Taken B) TaskFailure) → take_records c (xs ++ ys) t ≡ take_records c ys (take_records c xs t)
  records_append c [] ys t = refl
  records_append c (r ∷ rs) ys t = records_append c rs ys (and_then (λ x. take_record c x r) t)

  records_refused : (c : Committing) (rs : List (TaskRecord B)) (failure : TaskFailure) → take_records c rs (Err failure) ≡ Err failure
  records_refused c [] failure = refl
  records_refused c (r ∷ rs) failure = records_refused c rs failure

  -- one record more
  pub records_on : (c : Committing) (rs : List (TaskRecord B)) (i : ℕ) (r : TaskRecord B) (start : Result (Taken B) TaskFailure) (t : Taken B) → i < length rs → r ≡ get_or rs i r → take_records c (take i rs) start ≡ Ok t → take_records c (take (i + 1) rs) start ≡ take_record c t r
  records_on c rs i r start t less is so_far =
      ap (λ l. take_records c l start) (take_more rs i r less ∙ ap (λ x. take i rs ++ x ∷ []) (sym is))
      ∙ records_append c (take i rs) (r ∷ []) start
      ∙ ap (and_then (λ x. take_record c x r)) so_far

  -- the first that is refused refuses all
  records_stop : (c : Committing) (rs : List (TaskRecord B)) (i : ℕ) (r : TaskRecord B) (start : Result (Taken B) TaskFailure) (t : Taken B) (failure : TaskFailure) → i < length rs → r ≡ get_or rs i r → take_records c (take i rs) start ≡ Ok t → Err failure ≡ take_record c t r
      → Err failure ≡ take_records c rs start
  records_stop c rs i r start t failure less is so_far refused =
      sym (ap (λ l. take_records c l start) (sym (take-append-drop (i + 1) rs))
      ∙ records_append c (take (i + 1) rs) (drop (i + 1) rs) start
      ∙ ap (take_records c (drop (i + 1) rs)) (records_on c rs i r start t less is so_far ∙ sym refused)
      ∙ records_refused c (drop (i + 1) rs) failure)

  -- what one record comes to is what all do, or what they come to so far
  pub stopped : (c : Committing) (rs : List (TaskRecord B)) (i : ℕ) (r : TaskRecord B) (start : Result (Taken B) TaskFailure) (t x : Taken B) (o : Option TaskFailure) → is_some o ≡ true → i < length rs → r ≡ get_or rs i r → take_records c (take i rs) start ≡ Ok t → taken_or o x ≡ take_record c t r
      → taken_or o x ≡ take_records c rs start
  stopped c rs i r start t x None some less is so_far taken = cc
  stopped c rs i r start t x (Some failure) some less is so_far taken = records_stop c rs i r start t failure less is so_far taken

  pub went_on : (c : Committing) (rs : List (TaskRecord B)) (i : ℕ) (r : TaskRecord B) (start : Result (Taken B) TaskFailure) (t x : Taken B) (o : Option TaskFailure) → is_some o ≡ false → i < length rs → r ≡ get_or rs i r → take_records c (take i rs) start ≡ Ok t → taken_or o x ≡ take_record c t r
      → take_records c (take (i + 1) rs) start ≡ Ok x
  went_on c rs i r start t x None none less is so_far taken = records_on c rs i r start t less is so_far ∙ sym taken
  went_on c rs i r start t x (Some failure) none less is so_far taken = cc

  -- ---- a list of records in two parts
  -- all records are ready, and so are those of a front
  pub ready_front : (c : Committing) (start : Taken B) (front back : List (TaskRecord B)) → AreReadyFrom c start (front ++ back) → AreReadyFrom c start front
  ready_front c start front back ready n t less is =
      ready n t (omega (arith, length-append front back)) (ap (λ l. take_records c l (Ok start)) (take-append-le n front back (omega arith)) ∙ is)

  -- and those behind it, from where it leads
  pub ready_back : (c : Committing) (start mid : Taken B) (front back : List (TaskRecord B)) → Ok mid ≡ take_records c front (Ok start) → AreReadyFrom c start (front ++ back) → AreReadyFrom c mid back
  ready_back c start mid front back leads ready n t less is =
      ready (length front + n) t (omega (arith, length-append front back))
      (ap (λ l. take_records c l (Ok start)) (take-append-add front back n)
      ∙ records_append c front (take n back) (Ok start)
      ∙ ap (take_records c (take n back)) (sym leads)
      ∙ is)

  -- what they come to, one part behind the other
  pub both : (c : Committing) (rs front back : List (TaskRecord B)) (start mid end : Result (Taken B) TaskFailure) → rs ≡ front ++ back → mid ≡ take_records c front start → end ≡ take_records c back mid → take_records c rs start ≡ end
  both c rs front back start mid end is first then =
      ap (λ l. take_records c l start) is ∙ records_append c front back start ∙ ap (take_records c back) (sym first) ∙ sym then

  -- a front that is refused refuses all
  pub refused_front : (c : Committing) (rs front back : List (TaskRecord B)) (start : Result (Taken B) TaskFailure) (failure : TaskFailure) → rs ≡ front ++ back → Err failure ≡ take_records c front start → take_records c rs start ≡ Err failure
  refused_front c rs front back start failure is first = both c rs front back start (Err failure) (Err failure) is first (sym (records_refused c back failure))
