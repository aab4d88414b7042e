-- What directories show until a page is due, and what is still to come then.
use Rattle.std.proofs.Common.{◌≡◌, ℕ, ◌+◌, ◌<◌, ◌≤◌, Bool, true, false, List, [], ◌∷◌, ◌++◌, length, map, Option, Some, None, inr, refl, sym, ap, subst, ◌∙◌, append_assoc, arith, length-append}
use Rattle.std.proofs.lemmas.List.{length-map}
use Rattle.std.specs.Prelude.{⊤}
use Rattle.std.specs.List.{AllByRecursion}
use Rattle.std.proofs.lemmas.List.Concat.{flat_map-append}
use Rattle.mt_path.specs.AccountPath.{AccountPath}
use Rattle.mt_model.specs.Rows.{Rows, children}
use Rattle.mt_script.specs.Levels.{Listed, Settled, Shown, settled, settled_by, settled_out, shown, with_rows}
use Rattle.mt_found.specs.Found.{IsSearchable, lines_of}
use Rattle.mt_found.proofs.Names.{told}
use Rattle.mt_found.proofs.Pages.{IsKnown, due_rows}
use Rattle.mt_found.proofs.Shows.{IsRowOf, ShowsRows, inside, lines-append, shows}
use Rattle.mt_found.proofs.Trees.{all_within, below-children, rows_within}

-- the first of the directories waits for its page
abbrev pub IsDue : List Listed → Type 0
IsDue [] = ⊤
IsDue (l ∷ ls) = (l.rows ≡ []) × (l.more ≡ true)

module _ {B : Type 0} (size : B → ℕ) (path : AccountPath) (rows : Rows B) where
  abbrev pub due : Listed → Rows B
  due l = due_rows size path rows l.more l.ask.directory l.ask.marker

  -- the rows of a directory that are still to be shown are these
  pub record IsLevel (l : Listed) (these : Rows B) : Type 0 where
    pub are : l.rows ≡ map told these
    pub each : AllByRecursion (IsRowOf size path rows l.ask.directory) these
    pub known : IsKnown size path rows l.ask

  -- what is still to come of directories
  abbrev pub IsRest : List Listed → Rows B → Type 0
  IsRest [] rest = rest ≡ []
  IsRest (l ∷ ls) rest = (these : Rows B) × (later : Rows B) × IsLevel l these × (rest ≡ all_within rows (these ++ due l) ++ later) × IsRest ls later

  -- how many directories wait for a page
  abbrev pub waiting : Bool → ℕ
  waiting true = 1
  waiting false = 0

  abbrev pub open_in : List Listed → ℕ
  open_in [] = 0
  open_in (l ∷ ls) = waiting l.more + open_in ls

  -- the first has rows
  abbrev pub HasRows : List Listed → Type 0
  HasRows [] = ⊥
  HasRows (l ∷ ls) = 0 < length l.rows

  -- of what is to come some rows are shown, and these are left
  pub record Settles (login : List ℕ) (ls : List Listed) (before : Rows B) (s : Settled) : Type 0 where
    pub done : Rows B
    pub rest : Rows B
    pub whole : before ≡ done ++ rest
    pub text : s.text ≡ lines_of login done
    pub levels : IsRest s.levels rest
    pub due : IsDue s.levels
    pub opened : open_in s.levels ≤ open_in ls + length done
    pub some : HasRows ls → 0 < length done

  module _ (law : IsSearchable size path rows) (login : List ℕ) where
    all-append : (xs ys : Rows B) → all_within rows (xs ++ ys) ≡ all_within rows xs ++ all_within rows ys
    all-append xs ys = flat_map-append (λ c. rows_within rows c.0) xs ys

    -- what rows show stands in front of all that follows them
    in_front : (these left done inner next later : Rows B) → all_within rows these ≡ done ++ (inner ++ all_within rows left)
        → all_within rows (these ++ next) ++ later ≡ done ++ (inner ++ (all_within rows (left ++ next) ++ later))
    in_front these left done inner next later shown =
        let n = all_within rows next in
        let l = all_within rows left in
        ap (λ x. x ++ later) (all-append these next ∙ ap (λ x. x ++ n) shown)
        ∙ append_assoc (done ++ (inner ++ l)) n later
        ∙ append_assoc done (inner ++ l) (n ++ later)
        ∙ ap (λ x. done ++ x) (append_assoc inner l (n ++ later) ∙ ap (λ x. inner ++ x) (sym (append_assoc l n later) ∙ ap (λ x. x ++ later) (sym (all-append left next))))

    module _ (l : Listed) (ls : List Listed) (before these later : Rows B) (level : IsLevel l these) (is : before ≡ all_within rows (these ++ due l) ++ later) (rest : IsRest ls later) where
      abbrev s : Shown
      s = shown true login l.ask.directory l.rows

      abbrev IsShown : Type 0
      IsShown = ShowsRows size path rows login l.ask.directory these s

      whole_so : (h : IsShown) → before ≡ h.done ++ (inside size path rows s.into ++ (all_within rows (h.left ++ due l) ++ later))
      whole_so h = is ∙ in_front these h.left h.done (inside size path rows s.into) (due l) later h.whole

      some_so : (h : IsShown) → 0 < length l.rows → 0 < length h.done
      some_so h more = h.some (omega (arith, ap length level.are, length-map these (told {B = B})))

      -- it goes into a directory
      goes_in : (h : IsShown) (p : AccountPath) → s.into ≡ Some p → Settles login (l ∷ ls) before (settled_by l ls (settled true login ls) s (Some p))
      goes_in h p into =
          let in_path = (h.within p into).0 in
          let enters = h.enters p into in
          record {
            done = h.done;
            rest = all_within rows (children rows p) ++ (all_within rows (h.left ++ due l) ++ later);
            whole = whole_so h ∙ ap (λ o. h.done ++ (inside size path rows o ++ (all_within rows (h.left ++ due l) ++ later))) into
                ∙ ap (λ x. h.done ++ (x ++ (all_within rows (h.left ++ due l) ++ later))) (below-children size path rows law p in_path);
            text = h.text;
            levels = (
              [],
              all_within rows (h.left ++ due l) ++ later,
              record { are = refl; each = tt; known = record { within = in_path; directory = inr (h.within p into).1; marker = tt } },
              refl,
              (h.left, later, record { are = h.is; each = h.each; known = level.known }, refl, rest),
            );
            due = (refl, refl);
            opened = omega arith;
            some = λ more. enters;
          }

      whole_out : (h : IsShown) → s.into ≡ None → before ≡ h.done ++ (all_within rows (h.left ++ due l) ++ later)
      whole_out h none = whole_so h ∙ ap (λ o. h.done ++ (inside size path rows o ++ (all_within rows (h.left ++ due l) ++ later))) none

      -- all its rows are shown
      goes_out : (h : IsShown) → s.into ≡ None → Settles login ls later (settled true login ls) → (more : Bool) → l.more ≡ more
          → Settles login (l ∷ ls) before (settled_out more s.text (with_rows l s.left) ls (settled true login ls))
      goes_out h none next true more = record {
        done = h.done;
        rest = all_within rows (h.left ++ due l) ++ later;
        whole = whole_out h none;
        text = h.text;
        levels = (h.left, later, record { are = h.is; each = h.each; known = level.known }, refl, rest);
        due = (h.is ∙ ap (map told) (h.over none), more);
        opened = omega arith;
        some = some_so h;
      }
      goes_out h none next false more = record {
        done = h.done ++ next.done;
        rest = next.rest;
        whole =
            whole_out h none
            ∙ ap (λ x. h.done ++ (all_within rows (x ++ due l) ++ later)) (h.over none)
            ∙ ap (λ b. h.done ++ (all_within rows (due_rows size path rows b l.ask.directory l.ask.marker) ++ later)) more
            ∙ ap (λ x. h.done ++ x) next.whole
            ∙ sym (append_assoc h.done next.done next.rest);
        text = ap (λ t. t ++ (settled true login ls).text) h.text ∙ ap (λ t. lines_of login h.done ++ t) next.text ∙ sym (lines-append login h.done next.done);
        levels = next.levels;
        due = next.due;
        opened = omega (arith, next.opened, length-append h.done next.done);
        some = λ rows_there. omega (arith, some_so h rows_there, length-append h.done next.done);
      }

      settles_first : IsShown → Settles login ls later (settled true login ls) → (o : Option AccountPath) → s.into ≡ o → Settles login (l ∷ ls) before (settled_by l ls (settled true login ls) s o)
      settles_first h next (Some p) into = goes_in h p into
      settles_first h next None into = goes_out h into next l.more refl

    pub settles : (ls : List Listed) (before : Rows B) → IsRest ls before → Settles login ls before (settled true login ls)
    settles [] before is = record { done = []; rest = []; whole = is; text = refl; levels = refl; due = tt; opened = omega arith; some = λ none. absurd none }
    settles (l ∷ ls) before is =
        let level = is.2 in
        let h : ShowsRows size path rows login l.ask.directory is.0 (shown true login l.ask.directory l.rows) =
        subst (λ rs. ShowsRows size path rows login l.ask.directory is.0 (shown true login l.ask.directory rs)) (sym level.are) (shows size path rows law login l.ask.directory level.known.within is.0 level.each) in
        settles_first l ls before is.0 is.1 level is.3 is.4 h (settles ls is.1 is.4) (shown true login l.ask.directory l.rows).into refl
