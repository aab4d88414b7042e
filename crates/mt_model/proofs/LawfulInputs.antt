-- A job that gets inputs, or whose input ends, stays lawful.
use Rattle.std.proofs.Common.{◌≡◌, ℕ, ◌+◌, ◌-◌, ◌<◌, ◌≤◌, Bool, true, false, cond, not, ◌&&◌, ◌||◌, nat_lt, nat_le, List, [], ◌∷◌, ◌++◌, length, Option, Some, None, refl, sym, subst, ◌∙◌, arith, zero, suc, length-append}
use Rattle.std.specs.Prelude.{is_some, IsSome, codes}
use Rattle.std.specs.List.{AllByRecursion, slice_get}
use Rattle.std.proofs.lemmas.Bool.{lt-ltb, ltb-true, leb-true}
use Rattle.std.proofs.lemmas.List.Elements.{All-push}
use Rattle.mt_path.specs.AccountPath.{AccountPath, IsComponent, IsPath, root_of}
use Rattle.mt_path.specs.declared.area.Area.{Area}
use Rattle.mt_types.specs.WellMade.{IsWellMadeLine}
use Rattle.mt_types.specs.declared.document.InputLine.{InputLine}
use Rattle.mt_types.specs.declared.document.InputLine.TheVariants.{Named, Other}
use Rattle.mt_types.specs.declared.document.Phase.{Phase}
use Rattle.mt_types.specs.declared.document.PhaseKind.{PhaseKind}
use Rattle.mt_types.specs.declared.document.PhaseKind.TheVariants.{Map, Reduce}
use Rattle.mt_types.specs.declared.job.Item.{Item}
use Rattle.mt_types.specs.declared.job.Job.{Job}
use Rattle.mt_types.specs.declared.object.Entry.{Entry}
use Rattle.mt_types.specs.declared.object.Entry.TheVariants as entry
use Rattle.mt_types.specs.declared.object.Object.{Object}
use Rattle.mt_model.specs.Feed.{feed}
use Rattle.mt_model.specs.JobSteps.{input_refusal, with_end, with_line, with_lines, with_named}
use Rattle.mt_model.specs.Lawful.{LawfulItem, LawfulJob, LawfulRows}
use Rattle.mt_model.specs.Limits.{longest_root, most_inputs}
use Rattle.mt_model.specs.Listing.{name_of}
use Rattle.mt_model.specs.Names.{root_of_input}
use Rattle.mt_model.specs.Rows.{Rows, at, is_directory, object_at, object_in}
use Rattle.mt_model.specs.Sound.{Sound, before}
use Rattle.mt_model.specs.Tasks.{is_task_of, may_begin, task_count}
use Rattle.mt_model.proofs.EachStep.{pushed}
use Rattle.mt_model.proofs.LawfulJobs.{KeepsJob}
use Rattle.mt_model.proofs.RowLaws.{not_refused}
use Rattle.mt_model.proofs.Words.{input_is_component}

pub and_left : (a b : Bool) → (a && b) ≡ true → a ≡ true
and_left true b e = refl
and_left false b e = e

pub and_right : (a b : Bool) → (a && b) ≡ true → b ≡ true
and_right true b e = e
and_right false b e = cc

pub and_both : (a b : Bool) → a ≡ true → b ≡ true → (a && b) ≡ true
and_both true b p q = q
and_both false b p q = p

pub or_none : (a b : Bool) → (a || b) ≡ false → (a ≡ false) × (b ≡ false)
or_none true b e = cc
or_none false b e = (refl, e)

pub none_if_not : {A : Type 0} (o : Option A) → not (not (is_some o)) ≡ false → o ≡ None
none_if_not None e = refl
none_if_not (Some x) e = cc

not_done : (o : Option ℕ) → o ≡ None → IsSome o → ⊥
not_done None e s = cc
not_done (Some x) e s = cc

-- the name of an object is a component
short_case : (name : List ℕ) → IsComponent name → (b : Bool) → nat_le (length name) longest_root ≡ b → IsComponent (cond b name (codes "input")) × (length (cond b name (codes "input")) ≤ longest_root)
short_case name c true t = (c, leb-true (length name) longest_root t)
short_case name c false t = (input_is_component, omega arith)

module _ {B : Type 0} where
  -- a job that may get inputs has not ended and is not done
  pub record IsOpen (j : Job B) : Type 0 where
    pub ended : j.ended ≡ false
    pub done : j.done ≡ None

  pub open-allowed : (j : Job B) → input_refusal j ≡ None → IsOpen j
  open-allowed j e =
      let both = or_none j.ended _ (not_refused _ _ e) in
      record { ended = both.0; done = none_if_not j.done both.1 }

  -- ---- the end of the input

  begin_ended : (j : Job B) (k phase : ℕ) (kind : PhaseKind) → may_begin (before j k) phase kind ≡ true → may_begin (before (with_end j) k) phase kind ≡ true
  begin_ended j k phase Map e = refl
  begin_ended j k phase (Reduce count) e = and_right j.ended _ e

  task_ended : (j : Job B) (k phase place : ℕ) (o : Option Phase) → is_task_of (before j k) phase place o ≡ true → is_task_of (before (with_end j) k) phase place o ≡ true
  task_ended j k phase place None e = e
  task_ended j k phase place (Some p) e =
      and_both _ _ (begin_ended j k phase p.kind (and_left _ _ e)) (and_right (may_begin (before j k) phase p.kind) _ e)

  pub sound_ended : (j : Job B) → IsOpen j → Sound j → Sound (with_end j)
  sound_ended j o s = record {
    tasks = λ k e is. task_ended j k e.phase e.place (slice_get j.document.phases e.phase) (s.tasks k e is);
    once = s.once;
    rising = s.rising;
    finished = λ some. absurd (not_done j.done o.done some);
    cancelled = s.cancelled;
  }

  pub LawfulJob-ended : (n : ℕ) (j : Job B) → IsOpen j → LawfulJob n j → LawfulJob n (with_end j)
  LawfulJob-ended n j o law = record {
    number = law.number;
    positions = law.positions;
    few = law.few;
    missing = law.missing;
    few_each = law.few_each;
    inputs = law.inputs;
    outputs = law.outputs;
    document = law.document;
    assets = law.assets;
    sound = sound_ended j o law.sound;
  }

  pub KeepsJob-end : KeepsJob {B = B} with_end
  KeepsJob-end = record { number = λ j. refl; done = λ j some. some }

  -- ---- more inputs

  -- with one more input
  abbrev with_input : Job B → Item B → Job B
  with_input j i = record j { inputs = j.inputs ++ i ∷ [] }

  feed_longer : (j : Job B) (i : Item B) (k phase : ℕ) → length (feed (before j k) phase) ≤ length (feed (before (with_input j i) k) phase)
  feed_longer j i k zero = omega (arith, length-append j.inputs (i ∷ []))
  feed_longer j i k (suc phase) = omega arith

  task_grown : (j : Job B) (i : Item B) (open_yet : j.ended ≡ false) (k phase place : ℕ) (kind : PhaseKind)
      → (may_begin (before j k) phase kind && nat_lt place (task_count kind (feed (before j k) phase))) ≡ true
      → (may_begin (before (with_input j i) k) phase kind && nat_lt place (task_count kind (feed (before (with_input j i) k) phase))) ≡ true
  task_grown j i open_yet k phase place Map e =
      let within : place < length (feed (before j k) phase) = ltb-true place (length (feed (before j k) phase)) e in
      let more = feed_longer j i k phase in
      lt-ltb place (length (feed (before (with_input j i) k) phase)) (omega arith)
  task_grown j i open_yet k phase place (Reduce count) e =
      let begun : may_begin (before j k) phase (Reduce count) ≡ true = and_left _ _ e in
      let ended : j.ended ≡ true = and_left j.ended _ begun in
      absurd (let no : true ≡ false = sym ended ∙ open_yet in cc)

  task_grown_of : (j : Job B) (i : Item B) → j.ended ≡ false → (k phase place : ℕ) (o : Option Phase) → is_task_of (before j k) phase place o ≡ true → is_task_of (before (with_input j i) k) phase place o ≡ true
  task_grown_of j i open_yet k phase place None e = e
  task_grown_of j i open_yet k phase place (Some p) e = task_grown j i open_yet k phase place p.kind e

  sound_grown : (j : Job B) (i : Item B) → IsOpen j → Sound j → Sound (with_input j i)
  sound_grown j i o s = record {
    tasks = λ k e is. task_grown_of j i o.ended k e.phase e.place (slice_get j.document.phases e.phase) (s.tasks k e is);
    once = s.once;
    rising = s.rising;
    finished = λ some. absurd (not_done j.done o.done some);
    cancelled = s.cancelled;
  }

  sound_missing : (j : Job B) (lines : List InputLine) → IsOpen j → Sound j → Sound (record j { missing = lines })
  sound_missing j lines o s = record {
    tasks = s.tasks;
    once = s.once;
    rising = s.rising;
    finished = λ some. absurd (not_done j.done o.done some);
    cancelled = s.cancelled;
  }

  -- what lines keep of a job
  pub record TakesLines (n : ℕ) (j new : Job B) : Type 0 where
    pub law : LawfulJob n new
    pub opened : IsOpen new
    pub number : new.number ≡ j.number

  missing_case : (n : ℕ) (j : Job B) (line : InputLine) → LawfulJob n j → IsOpen j → IsWellMadeLine line → length j.inputs + length j.missing + 1 ≤ most_inputs → TakesLines n j (record j { missing = j.missing ++ line ∷ [] })
  missing_case n j line law o made room = record {
    law = record {
      number = law.number;
      positions = law.positions;
      few = let more = length-append j.missing (line ∷ []) in omega (arith, more, room);
      missing = pushed IsWellMadeLine j.missing line law.missing made;
      few_each = law.few_each;
      inputs = law.inputs;
      outputs = law.outputs;
      document = law.document;
      assets = law.assets;
      sound = sound_missing j (j.missing ++ line ∷ []) o law.sound;
    };
    opened = record { ended = o.ended; done = o.done };
    number = refl;
  }

  no_object : (e : Option (Entry B)) (o : Object B) → is_directory e ≡ true → object_in e ≡ Some o → ⊥
  no_object None o d is = cc
  no_object (Some (entry.Directory mtime)) o d is = cc
  no_object (Some (entry.Object x)) o d is = cc

  root_case : (n : ℕ) (rows : Rows B) (law : LawfulRows n rows) (area : Area) (parts : List (List ℕ)) (o : Object B) → IsPath (record { area = area; parts = parts }) → object_at rows (record { area = area; parts = parts }) ≡ Some o → IsComponent (name_of (record { area = area; parts = parts }))
  root_case n rows law area [] o path is = absurd (no_object (at rows (root_of area)) o (law.tree.roots area) is)
  root_case n rows law area (first ∷ rest) o path is = path.components (length (first ∷ rest) - 1) [] (omega arith)

  some_entry : (e : Option (Entry B)) (o : Object B) → object_in e ≡ Some o → IsSome e
  some_entry None o is = cc
  some_entry (Some x) o is = refl

  -- the item that an object becomes has a root
  root_good : (n : ℕ) (rows : Rows B) (p : AccountPath) (o : Object B) → LawfulRows n rows → object_at rows p ≡ Some o → LawfulItem (record { name = p; root = root_of_input p; body = o.body; reducer = None })
  root_good n rows p o law is =
      let path : IsPath p = law.paths p (some_entry (at rows p) o is) in
      let component : IsComponent (name_of p) = root_case n rows law p.area p.parts o path is in
      let both = short_case (name_of p) component (nat_le (length (name_of p)) longest_root) refl in
      record { name = path; component = both.0; short = both.1 }

  named_case : (n : ℕ) (rows : Rows B) (law : LawfulRows n rows) (p : AccountPath) (j : Job B) → LawfulJob n j → IsOpen j → IsPath p → length j.inputs + length j.missing + 1 ≤ most_inputs
      → (o : Option (Object B)) → object_at rows p ≡ o → TakesLines n j (with_named p j o)
  named_case n rows law p j job o made room None is = missing_case n j (Named p) job o made room
  named_case n rows law p j job o made room (Some object) is =
      let item : Item B = record { name = p; root = root_of_input p; body = object.body; reducer = None } in
      record {
        law = record {
          number = job.number;
          positions = job.positions;
          few = let more = length-append j.inputs (item ∷ []) in omega (arith, more, room);
          missing = job.missing;
          few_each = job.few_each;
          inputs = All-push LawfulItem j.inputs item job.inputs (root_good n rows p object law is);
          outputs = job.outputs;
          document = job.document;
          assets = job.assets;
          sound = sound_grown j item o job.sound;
        };
        opened = record { ended = o.ended; done = o.done };
        number = refl;
      }

  line_case : (n : ℕ) (rows : Rows B) → LawfulRows n rows → (j : Job B) → LawfulJob n j → IsOpen j → (line : InputLine) → IsWellMadeLine line → length j.inputs + length j.missing + 1 ≤ most_inputs
      → TakesLines n j (with_line rows j line)
  line_case n rows law j job o (Named p) made room = named_case n rows law p j job o made room (object_at rows p) refl
  line_case n rows law j job o (Other text) made room = missing_case n j (Other text) job o tt room

  -- each line is an input or a missing line
  named_counts : (p : AccountPath) (j : Job B) (o : Option (Object B)) → length (with_named p j o).inputs + length (with_named p j o).missing ≡ length j.inputs + length j.missing + 1
  named_counts p j None = let more = length-append j.missing (Named p ∷ []) in omega (arith, more)
  named_counts p j (Some object) = let more = length-append j.inputs (record { name = p; root = root_of_input p; body = object.body; reducer = None } ∷ []) in omega (arith, more)

  line_counts : (rows : Rows B) (j : Job B) (line : InputLine) → length (with_line rows j line).inputs + length (with_line rows j line).missing ≡ length j.inputs + length j.missing + 1
  line_counts rows j (Named p) = named_counts p j (object_at rows p)
  line_counts rows j (Other text) = let more = length-append j.missing (Other text ∷ []) in omega (arith, more)

  named_sound : (p : AccountPath) (j : Job B) → IsOpen j → Sound j → (o : Option (Object B)) → IsOpen (with_named p j o) × Sound (with_named p j o)
  named_sound p j o s None = (record { ended = o.ended; done = o.done }, sound_missing j (j.missing ++ Named p ∷ []) o s)
  named_sound p j o s (Some object) = (record { ended = o.ended; done = o.done }, sound_grown j (record { name = p; root = root_of_input p; body = object.body; reducer = None }) o s)

  line_sound : (rows : Rows B) (j : Job B) → IsOpen j → Sound j → (line : InputLine) → IsOpen (with_line rows j line) × Sound (with_line rows j line)
  line_sound rows j o s (Named p) = named_sound p j o s (object_at rows p)
  line_sound rows j o s (Other text) = (record { ended = o.ended; done = o.done }, sound_missing j (j.missing ++ Other text ∷ []) o s)

  -- a job that takes lines stays sound, whatever stands at their paths
  pub lines_sound : (rows : Rows B) (lines : List InputLine) (j : Job B) → IsOpen j → Sound j → Sound (with_lines rows lines j)
  lines_sound rows [] j o s = s
  lines_sound rows (line ∷ lines) j o s =
      let first = line_sound rows j o s line in
      lines_sound rows lines (with_line rows j line) first.0 first.1

  pub lines_good : (n : ℕ) (rows : Rows B) → LawfulRows n rows → (lines : List InputLine) (j : Job B) → LawfulJob n j → IsOpen j → AllByRecursion IsWellMadeLine lines
      → length j.inputs + length j.missing + length lines ≤ most_inputs → TakesLines n j (with_lines rows lines j)
  lines_good n rows law [] j job o made room = record { law = job; opened = o; number = refl }
  lines_good n rows law (line ∷ lines) j job o made room =
      let first = line_case n rows law j job o line made.0 (omega (arith, room)) in
      let counts = line_counts rows j line in
      let rest = lines_good n rows law lines (with_line rows j line) first.law first.opened made.1 (omega (arith, room, counts)) in
      record { law = rest.law; opened = rest.opened; number = rest.number ∙ first.number }

  -- and for any job they keep its number, and whether it is done
  named_keeps : (p : AccountPath) (j : Job B) (o : Option (Object B)) → ((with_named p j o).number ≡ j.number) × ((with_named p j o).done ≡ j.done)
  named_keeps p j None = (refl, refl)
  named_keeps p j (Some o) = (refl, refl)

  line_keeps : (rows : Rows B) (j : Job B) (line : InputLine) → ((with_line rows j line).number ≡ j.number) × ((with_line rows j line).done ≡ j.done)
  line_keeps rows j (Named p) = named_keeps p j (object_at rows p)
  line_keeps rows j (Other text) = (refl, refl)

  lines_keep : (rows : Rows B) (lines : List InputLine) (j : Job B) → ((with_lines rows lines j).number ≡ j.number) × ((with_lines rows lines j).done ≡ j.done)
  lines_keep rows [] j = (refl, refl)
  lines_keep rows (line ∷ lines) j =
      let first = line_keeps rows j line in
      let rest = lines_keep rows lines (with_line rows j line) in
      (rest.0 ∙ first.0, rest.1 ∙ first.1)

  pub KeepsJob-lines : (rows : Rows B) (lines : List InputLine) → KeepsJob (with_lines rows lines)
  KeepsJob-lines rows lines = record { number = λ j. (lines_keep rows lines j).0; done = λ j some. subst IsSome (sym (lines_keep rows lines j).1) some }
