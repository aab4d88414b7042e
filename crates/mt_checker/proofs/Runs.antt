-- Lines lead from the beginning to the end exactly where they are those of a certificate that adds up.
use Rattle.std.proofs.Common.{◌≡◌, ℕ, ◌≤◌, ◌==◌, zero, suc, Bool, true, false, cond, not, ◌&&◌, List, [], ◌∷◌, ◌++◌, map, length, take, Option, Some, None, is_some, option_and_then, refl, sym, ap, subst, ◌∙◌, arith, append_assoc, append-nil}
use Rattle.std.specs.List.{slice_get}
use Rattle.std.specs.Option.{option_map_or}
use Rattle.std.proofs.lemmas.Bool.{and_from, and_left, and_parts, and_right, eq-eqb, eqb-true, ne_eqb, true≢false}
use Rattle.std.proofs.lemmas.List.{length-map, length_push, take_all}
use Rattle.mt_model.specs.Types.{AccountPath, Item, Phase}
use Rattle.mt_model.specs.Finished.{outputs_of}
use Rattle.mt_model.specs.Rows.{is_path}
use Rattle.mt_model.proofs.RowLaws.{is_path-exact, is_path-self}
use Rattle.mt_certline.specs.Certificate.{AddsUp, Certificate, Progress, first_open, is_whole, job_so_far, lines_of, output_follows, task_follows}
use Rattle.mt_certline.specs.declared.line.Line.{Line}
use Rattle.mt_certline.specs.declared.line.Line.TheVariants.{Begin, End, Input, Output, Task}
use Rattle.mt_certline.specs.declared.line.Listed.{Listed}
use Rattle.mt_certline.specs.declared.line.Sum.{Sum}
use Rattle.mt_checker.specs.Stages.{Beginning, Listing, Over, Stage, begun, run, with_input, with_output, with_task}
use Rattle.mt_checker.proofs.Certified.{follows, made_is, none_open}
use Rattle.mt_checker.proofs.Followed.{Standing, progress, standing_adds_up, standing_none, standing_task}
use Rattle.mt_checker.proofs.Fronts.{job}

-- these inputs, tasks and names, and then the last line
abbrev rest : List (Item Sum) → List Listed → List AccountPath → List Line
rest is ts ps = map (λ i. Input i) is ++ (map (λ l. Task l) ts ++ (map (λ p. Output p) ps ++ End ∷ []))

lines-rest : (c : Certificate) → lines_of c ≡ Begin c.number c.phases ∷ rest c.inputs c.tasks c.outputs
lines-rest c =
    let is = map (λ i. Input i) c.inputs in
    let ts = map (λ l. Task l) c.tasks in
    let ps = map (λ p. Output p) c.outputs in
    ap (λ ls. Begin c.number c.phases ∷ ls) (append_assoc (is ++ ts) ps (End ∷ []) ∙ append_assoc is ts (ps ++ End ∷ []))

-- ---- the lines of a certificate that adds up lead to the end

module _ (phases : List Phase) where
  inputs_run : (xs ys : List (Item Sum)) (ls : List Line)
      → run (Listing (record { phases = phases; inputs = xs; tasks = []; outputs = [] })) (map (λ i. Input i) ys ++ ls) ≡ run (Listing (record { phases = phases; inputs = xs ++ ys; tasks = []; outputs = [] })) ls
  inputs_run xs [] ls = ap (λ is. run (Listing (record { phases = phases; inputs = is; tasks = []; outputs = [] })) ls) (sym (append-nil xs))
  inputs_run xs (y ∷ ys) ls =
      inputs_run (xs ++ y ∷ []) ys ls ∙ ap (λ is. run (Listing (record { phases = phases; inputs = is; tasks = []; outputs = [] })) ls) (append_assoc xs (y ∷ []) ys)

module _ (c : Certificate) (adds : AddsUp c) where
  abbrev at_tasks : List Listed → Stage
  at_tasks ts = Listing (progress c.phases c.inputs ts [])

  tasks_run : (xs ys : List Listed) (ls : List Line) → xs ++ ys ≡ c.tasks → run (at_tasks xs) (map (λ l. Task l) ys ++ ls) ≡ run (at_tasks c.tasks) ls
  tasks_run xs [] ls cut = ap (λ ts. run (at_tasks ts) ls) (sym (append-nil xs) ∙ cut)
  tasks_run xs (y ∷ ys) ls cut =
      ap (λ b. option_and_then (λ t. run t (map (λ l. Task l) ys ++ ls)) (cond b (Some (Listing (with_task (progress c.phases c.inputs xs []) y))) None)) (follows c adds xs y ys cut [])
      ∙ tasks_run (xs ++ y ∷ []) ys ls (append_assoc xs (y ∷ []) ys ∙ cut)

  abbrev at_outputs : List AccountPath → Stage
  at_outputs ps = Listing (progress c.phases c.inputs c.tasks ps)

  name_at : (items : List (Item Sum)) (xs : List AccountPath) (y : AccountPath) (ys : List AccountPath) → map (λ i. i.name) items ≡ xs ++ y ∷ ys
      → option_map_or (λ i. is_path i.name y) (slice_get items (length xs)) false ≡ true
  name_at [] [] y ys same = cc
  name_at [] (x ∷ xs) y ys same = cc
  name_at (i ∷ items) [] y ys same = let is : i.name ≡ y = cc in ap (λ n. is_path n y) is ∙ is_path-self y
  name_at (i ∷ items) (x ∷ xs) y ys same = name_at items xs y ys (let more : map (λ j. j.name) items ≡ xs ++ y ∷ ys = cc in more)

  abbrev made : List (Item Sum)
  made = outputs_of (job c.phases c.inputs c.tasks)

  made_named : map (λ i. i.name) made ≡ c.outputs
  made_named = ap (map (λ i. i.name)) (sym (made_is c adds)) ∙ adds.named

  name_follows : (xs : List AccountPath) (y : AccountPath) (ys : List AccountPath) → xs ++ y ∷ ys ≡ c.outputs → output_follows (progress c.phases c.inputs c.tasks xs) y ≡ true
  name_follows xs y ys cut = and_from _ _ (ap (λ o. not (is_some o)) (none_open c adds)) (name_at made xs y ys (made_named ∙ sym cut))

  outputs_run : (xs ys : List AccountPath) (ls : List Line) → xs ++ ys ≡ c.outputs → run (at_outputs xs) (map (λ p. Output p) ys ++ ls) ≡ run (at_outputs c.outputs) ls
  outputs_run xs [] ls cut = ap (λ ps. run (at_outputs ps) ls) (sym (append-nil xs) ∙ cut)
  outputs_run xs (y ∷ ys) ls cut =
      ap (λ b. option_and_then (λ t. run t (map (λ p. Output p) ys ++ ls)) (cond b (Some (Listing (with_output (progress c.phases c.inputs c.tasks xs) y))) None)) (name_follows xs y ys cut)
      ∙ outputs_run (xs ++ y ∷ []) ys ls (append_assoc xs (y ∷ []) ys ∙ cut)

  whole_there : is_whole (progress c.phases c.inputs c.tasks c.outputs) ≡ true
  whole_there =
      and_from _ _ (ap (λ o. not (is_some o)) (none_open c adds))
      (eq-eqb (length c.outputs) (length made) (ap length (sym made_named) ∙ length-map made (λ i. i.name)))

  end_run : run (at_outputs c.outputs) (End ∷ []) ≡ Some Over
  end_run = ap (λ b. option_and_then (λ t. run t []) (cond b (Some Over) None)) whole_there

  pub certificate_runs : run Beginning (lines_of c) ≡ Some Over
  certificate_runs =
      ap (run Beginning) (lines-rest c)
      ∙ (inputs_run c.phases [] c.inputs (map (λ l. Task l) c.tasks ++ (map (λ p. Output p) c.outputs ++ End ∷ []))
      ∙ (tasks_run [] c.tasks (map (λ p. Output p) c.outputs ++ End ∷ []) refl
      ∙ (outputs_run [] c.outputs (End ∷ []) refl ∙ end_run)))

-- ---- lines that lead to the end are those of a certificate that adds up

-- all tasks stand, none is left out, and the names are those of what they make
record Whole (phases : List Phase) (is : List (Item Sum)) (ts : List Listed) (ps : List AccountPath) : Type 0 where
  standing : Standing phases is ts
  none : first_open (progress phases is ts []) ≡ None
  named : map (λ i. i.name) (outputs_of (job phases is ts)) ≡ ps

-- what holds in the midst
record Good (g : Progress) : Type 0 where
  standing : Standing g.phases g.inputs g.tasks
  front : g.outputs ≡ take (length g.outputs) (map (λ i. i.name) (outputs_of (job_so_far g)))

abbrev is_bare : Progress → Bool
is_bare g = (length g.tasks == 0) && (length g.outputs == 0)

-- what the lines that are left list
record Left (g : Progress) (ls : List Line) : Type 0 where
  inputs : List (Item Sum)
  tasks : List Listed
  outputs : List AccountPath
  lines : ls ≡ rest inputs tasks outputs
  no_inputs : is_bare g ≡ false → inputs ≡ []
  no_tasks : length g.outputs == 0 ≡ false → tasks ≡ []
  whole : Whole g.phases (g.inputs ++ inputs) (g.tasks ++ tasks) (g.outputs ++ outputs)

from_some : {A : Type 0} (b : Bool) (x y : A) → cond b (Some x) None ≡ Some y → b ≡ true
from_some true x y e = refl
from_some false x y e = cc

-- a line that may stand there leads on
went_on : (b : Bool) (s t : Stage) (ls : List Line) → option_and_then (λ u. run u ls) (cond b (Some s) None) ≡ Some t → (b ≡ true) × (run s ls ≡ Some t)
went_on true s t ls e = (refl, e)
went_on false s t ls e = cc

not_nil : {A : Type 0} (xs : List A) (x : A) → length (xs ++ x ∷ []) == 0 ≡ false
not_nil xs x = ne_eqb (length (xs ++ x ∷ [])) 0 (λ e. let none : length (xs ++ x ∷ []) ≡ 0 = e in absurd (omega (arith, none, length_push xs x)))

none_some : {A : Type 0} (o : Option A) → not (is_some o) ≡ true → o ≡ None
none_some None e = refl
none_some (Some x) e = cc

nil_of : {A : Type 0} (xs : List A) → length xs == 0 ≡ true → xs ≡ []
nil_of [] e = refl
nil_of (x ∷ xs) e = let none : suc (length xs) ≡ 0 = eqb-true (length (x ∷ xs)) 0 e in absurd (omega (arith, none))

over_ends : (ls : List Line) → run Over ls ≡ Some Over → ls ≡ []
over_ends [] e = refl
over_ends (l ∷ ls) e = cc

taken_on : (items : List (Item Sum)) (n : ℕ) (p : AccountPath) → option_map_or (λ i. is_path i.name p) (slice_get items n) false ≡ true → take (suc n) (map (λ i. i.name) items) ≡ take n (map (λ i. i.name) items) ++ p ∷ []
taken_on [] n p e = cc
taken_on (i ∷ items) zero p e = ap (λ x. x ∷ []) (is_path-exact i.name p e)
taken_on (i ∷ items) (suc n) p e = ap (λ x. i.name ∷ x) (taken_on items n p e)

good_input : (g : Progress) (i : Item Sum) → is_bare g ≡ true → Good g → Good (with_input g i)
good_input g i bare good =
    let parts = and_parts (length g.tasks == 0) (length g.outputs == 0) bare in
    let tasks : g.tasks ≡ [] = nil_of g.tasks parts.0 in
    let outputs : g.outputs ≡ [] = nil_of g.outputs parts.1 in
    record {
      standing = subst (λ ts. Standing g.phases (g.inputs ++ i ∷ []) ts) (sym tasks) (standing_none g.phases (g.inputs ++ i ∷ []));
      front = subst (λ ps. ps ≡ take (length ps) (map (λ j. j.name) (outputs_of (job_so_far (with_input g i))))) (sym outputs) refl;
    }

good_task : (g : Progress) (l : Listed) → length g.outputs == 0 ≡ true → task_follows g l ≡ true → Good g → Good (with_task g l)
good_task g l none follows good =
    let outputs : g.outputs ≡ [] = nil_of g.outputs none in
    record {
      standing = standing_task g.phases g.inputs g.tasks l g.outputs good.standing follows;
      front = subst (λ ps. ps ≡ take (length ps) (map (λ j. j.name) (outputs_of (job_so_far (with_task g l))))) (sym outputs) refl;
    }

good_output : (g : Progress) (p : AccountPath) → output_follows g p ≡ true → Good g → Good (with_output g p)
good_output g p follows good =
    let parts = and_parts (not (is_some (first_open g))) (option_map_or (λ i. is_path i.name p) (slice_get (outputs_of (job_so_far g)) (length g.outputs)) false) follows in
    let names : List AccountPath = map (λ i. i.name) (outputs_of (job_so_far g)) in
    let longer : length (g.outputs ++ p ∷ []) ≡ suc (length g.outputs) = omega (arith, length_push g.outputs p) in
    record {
      standing = good.standing;
      front = ap (λ ps. ps ++ p ∷ []) good.front ∙ (sym (taken_on (outputs_of (job_so_far g)) (length g.outputs) p parts.1) ∙ ap (λ n. take n names) (sym longer));
    }

left_input : (g : Progress) (i : Item Sum) (ls : List Line) → is_bare g ≡ true → Left (with_input g i) ls → Left g (Input i ∷ ls)
left_input g i ls bare r = record {
  inputs = i ∷ r.inputs;
  tasks = r.tasks;
  outputs = r.outputs;
  lines = ap (λ x. Input i ∷ x) r.lines;
  no_inputs = λ other. absurd (true≢false (sym bare ∙ other));
  no_tasks = r.no_tasks;
  whole = subst (λ is. Whole g.phases is (g.tasks ++ r.tasks) (g.outputs ++ r.outputs)) (append_assoc g.inputs (i ∷ []) r.inputs) r.whole;
}

left_task : (g : Progress) (l : Listed) (ls : List Line) → length g.outputs == 0 ≡ true → Left (with_task g l) ls → Left g (Task l ∷ ls)
left_task g l ls none r =
    let no_more : r.inputs ≡ [] = r.no_inputs (and_left _ _ (not_nil g.tasks l)) in
    record {
      inputs = r.inputs;
      tasks = l ∷ r.tasks;
      outputs = r.outputs;
      lines = ap (λ x. Task l ∷ x) (r.lines ∙ ap (λ is. rest is r.tasks r.outputs) no_more) ∙ ap (λ is. rest is (l ∷ r.tasks) r.outputs) (sym no_more);
      no_inputs = λ other. no_more;
      no_tasks = λ other. absurd (true≢false (sym none ∙ other));
      whole = subst (λ ts. Whole g.phases (g.inputs ++ r.inputs) ts (g.outputs ++ r.outputs)) (append_assoc g.tasks (l ∷ []) r.tasks) r.whole;
    }

left_output : (g : Progress) (p : AccountPath) (ls : List Line) → Left (with_output g p) ls → Left g (Output p ∷ ls)
left_output g p ls r =
    let no_more : r.inputs ≡ [] = r.no_inputs (and_right (length g.tasks == 0) _ (not_nil g.outputs p)) in
    let no_later : r.tasks ≡ [] = r.no_tasks (not_nil g.outputs p) in
    record {
      inputs = r.inputs;
      tasks = r.tasks;
      outputs = p ∷ r.outputs;
      lines = ap (λ x. Output p ∷ x) (r.lines ∙ (ap (λ is. rest is r.tasks r.outputs) no_more ∙ ap (λ ts. rest [] ts r.outputs) no_later))
          ∙ (ap (λ ts. rest [] ts (p ∷ r.outputs)) (sym no_later) ∙ ap (λ is. rest is r.tasks (p ∷ r.outputs)) (sym no_more));
      no_inputs = λ other. no_more;
      no_tasks = λ other. no_later;
      whole = subst (λ ps. Whole g.phases (g.inputs ++ r.inputs) (g.tasks ++ r.tasks) ps) (append_assoc g.outputs (p ∷ []) r.outputs) r.whole;
    }

left_end : (g : Progress) (ls : List Line) → is_whole g ≡ true → run Over ls ≡ Some Over → Good g → Left g (End ∷ ls)
left_end g ls whole over good =
    let parts = and_parts (not (is_some (first_open g))) (length g.outputs == length (outputs_of (job_so_far g))) whole in
    let names : List AccountPath = map (λ i. i.name) (outputs_of (job_so_far g)) in
    let long : length names ≤ length g.outputs = omega (arith, length-map (outputs_of (job_so_far g)) (λ i. i.name), eqb-true (length g.outputs) (length (outputs_of (job_so_far g))) parts.1) in
    let w : Whole g.phases g.inputs g.tasks g.outputs = record { standing = good.standing; none = none_some _ parts.0; named = sym (good.front ∙ take_all (length g.outputs) names long) } in
    record {
      inputs = [];
      tasks = [];
      outputs = [];
      lines = ap (λ x. End ∷ x) (over_ends ls over);
      no_inputs = λ other. refl;
      no_tasks = λ other. refl;
      whole = subst (λ is. Whole g.phases is (g.tasks ++ []) (g.outputs ++ [])) (sym (append-nil g.inputs))
          (subst (λ ts. Whole g.phases g.inputs ts (g.outputs ++ [])) (sym (append-nil g.tasks)) (subst (Whole g.phases g.inputs g.tasks) (sym (append-nil g.outputs)) w));
    }

left_from : (ls : List Line) (g : Progress) → Good g → run (Listing g) ls ≡ Some Over → Left g ls
left_from [] g good over = cc
left_from (Begin number phases ∷ ls) g good over = cc
left_from (Input i ∷ ls) g good over =
    let on = went_on (is_bare g) (Listing (with_input g i)) Over ls over in
    left_input g i ls on.0 (left_from ls (with_input g i) (good_input g i on.0 good) on.1)
left_from (Task l ∷ ls) g good over =
    let on = went_on ((length g.outputs == 0) && task_follows g l) (Listing (with_task g l)) Over ls over in
    let parts = and_parts (length g.outputs == 0) (task_follows g l) on.0 in
    left_task g l ls parts.0 (left_from ls (with_task g l) (good_task g l parts.0 parts.1 good) on.1)
left_from (Output p ∷ ls) g good over =
    let on = went_on (output_follows g p) (Listing (with_output g p)) Over ls over in
    left_output g p ls (left_from ls (with_output g p) (good_output g p on.0 good) on.1)
left_from (End ∷ ls) g good over =
    let on = went_on (is_whole g) Over Over ls over in
    left_end g ls on.0 on.1 good

pub runs_certificate : (ls : List Line) → run Beginning ls ≡ Some Over → (c : Certificate) × (ls ≡ lines_of c) × AddsUp c
runs_certificate [] over = cc
runs_certificate (Begin number phases ∷ ls) over =
    let good : Good (begun phases) = record { standing = standing_none phases []; front = refl } in
    let r : Left (begun phases) ls = left_from ls (begun phases) good over in
    let c : Certificate = record { number = number; phases = phases; inputs = r.inputs; tasks = r.tasks; outputs = r.outputs } in
    (c, ap (λ x. Begin number phases ∷ x) r.lines ∙ sym (lines-rest c), standing_adds_up phases r.inputs number r.tasks r.outputs r.whole.standing r.whole.none r.whole.named)
runs_certificate (Input i ∷ ls) over = cc
runs_certificate (Task l ∷ ls) over = cc
runs_certificate (Output p ∷ ls) over = cc
runs_certificate (End ∷ ls) over = cc
