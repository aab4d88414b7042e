-- What replies ask of the rows: in a lawful state within its limits each row can be told.
use Rattle.std.proofs.Common.{◌≡◌, ℕ, ◌<◌, ◌≤◌, ◌^◌, Bool, true, false, cond, [], ◌∷◌, Option, Some, None, Result, Ok, Err, refl, sym, ap, subst, ◌∙◌, arith}
use Rattle.std.specs.Prelude.{IfSome}
use Rattle.std.specs.List.{AllByRecursion}
use Rattle.std.specs.List.Sorted.{IsStrictlySortedBy}
use Rattle.std.specs.Map.{keys_of, lookup}
use Rattle.std.specs.Ordering.{is_eq}
use Rattle.std.specs.declared.cmp.Ordering.TheVariants.{Less}
use Rattle.std.proofs.lemmas.Bool.{leb-true}
use Rattle.mt_cond.specs.Conditions.{judged}
use Rattle.mt_cond.specs.declared.conditions.Conditions.{Conditions}
use Rattle.mt_cond.specs.declared.conditions.Judged.{Judged}
use Rattle.mt_cond.specs.declared.conditions.Judged.TheVariants as says
use Rattle.mt_base.specs.declared.limits.TheConstants.{LAST_MOMENT}
use Rattle.mt_live.specs.LiveTexts.{IsEntryListable}
use Rattle.mt_model.specs.Keeping.{IsEntry, KeepsLimits}
use Rattle.mt_model.specs.Lawful.{IsBelow, Lawful}
use Rattle.mt_model.specs.Rows.{Rows, at, is_path, object_at, object_in}
use Rattle.mt_model.specs.State.{State}
use Rattle.mt_model.proofs.RowLaws.{is_path-exact, is_path-self}
use Rattle.mt_path.specs.AccountPath.{AccountPath}
use Rattle.mt_path.specs.PathOrder.{path_cmp}
use Rattle.mt_store.specs.Decisions.{found_by, found_in, read_decision}
use Rattle.mt_store.specs.declared.error.StoreError.{StoreError}
use Rattle.mt_store.specs.declared.reads.Found.{Found}
use Rattle.mt_store.specs.declared.reads.Found.TheVariants as found
use Rattle.mt_types.specs.declared.body.Body.{Body}
use Rattle.mt_types.specs.declared.limits.TheConstants.{MOST_COMMANDS}
use Rattle.mt_types.specs.declared.object.Entry.{Entry}
use Rattle.mt_types.specs.declared.object.Entry.TheVariants as entry
use Rattle.mt_types.specs.declared.object.Object.{Object}
use Rattle.mt_answer.specs.Laws.{AreListable}

-- ---- the numbers of all objects, by what is found at each path

abbrev HasNumber : ℕ → Entry Body → Type 0
HasNumber count (entry.Directory mtime) = Unit {0}
HasNumber count (entry.Object o) = IsBelow count o.number

-- no path below all others is among them
absent : (p : AccountPath) (rows : Rows Body) → AllByRecursion (λ q. path_cmp p q ≡ Less) (keys_of rows) → lookup (is_path p) rows ≡ None
absent p [] all = refl
absent p (r ∷ rows) all = ap (λ o. cond (is_eq o) (Some r.1) (lookup (is_path p) rows)) all.0 ∙ absent p rows all.1

number_here : (count : ℕ) (e : Entry Body) → ((o : Object Body) → object_in (Some e) ≡ Some o → IsBelow count o.number) → HasNumber count e
number_here count (entry.Directory mtime) each = tt
number_here count (entry.Object o) each = each o refl

-- a row behind the first is found by its path
behind : (r : AccountPath × Entry Body) (rows : Rows Body) (p : AccountPath) (o : Object Body) → AllByRecursion (λ q. path_cmp r.0 q ≡ Less) (keys_of rows) → object_at rows p ≡ Some o
    → (b : Bool) → is_path p r.0 ≡ b → object_at (r ∷ rows) p ≡ Some o
behind r rows p o above is true here =
    let nothing : object_at rows p ≡ None = ap (λ q. object_in (lookup (is_path q) rows)) (is_path-exact p r.0 here) ∙ ap (λ (e : Option (Entry Body)). object_in e) (absent r.0 rows above) in
    let no : Some o ≡ None = sym is ∙ nothing in cc
behind r rows p o above is false other = ap (λ b. object_in (cond b (Some r.1) (lookup (is_path p) rows))) other ∙ is

numbers : (count : ℕ) (rows : Rows Body) → IsStrictlySortedBy path_cmp (keys_of rows) → ((p : AccountPath) (o : Object Body) → object_at rows p ≡ Some o → IsBelow count o.number)
    → AllByRecursion (λ r. HasNumber count r.1) rows
unfolding IsStrictlySortedBy
numbers count [] sorted each = tt
numbers count (r ∷ rows) sorted each = (
  number_here count r.1 (λ o is. each r.0 o (ap (λ b. object_in (cond b (Some r.1) (lookup (is_path r.0) rows))) (is_path-self r.0) ∙ is)),
  numbers count rows sorted.1 (λ p o is. each p o (behind r rows p o sorted.0 is (is_path p r.0) refl)),
)

-- ---- both

-- a number of so few commands has an identifier
small : (count number : ℕ) → count ≤ MOST_COMMANDS → IsBelow count number → number < 2 ^ 62
small count number few below = omega arith

listable_entry : (count : ℕ) (e : Entry Body) → count ≤ MOST_COMMANDS → IsEntry e → HasNumber count e → IsEntryListable e
listable_entry count (entry.Directory mtime) few is number = leb-true mtime LAST_MOMENT is
listable_entry count (entry.Object o) few is number = (leb-true o.mtime LAST_MOMENT is.moment_is, small count o.number few number)

listable_rows : (count : ℕ) (rows : Rows Body) → count ≤ MOST_COMMANDS → AllByRecursion (λ r. IsEntry r.1) rows → AllByRecursion (λ r. HasNumber count r.1) rows → AreListable rows
listable_rows count [] few limits below = tt
listable_rows count (r ∷ rows) few limits below = (listable_entry count r.1 few limits.0 below.0, listable_rows count rows few limits.1 below.1)

pub lawful_listable : (s : State Body) → Lawful s → KeepsLimits s → s.count ≤ MOST_COMMANDS → AreListable s.rows
lawful_listable s lawful limits few = listable_rows s.count s.rows few limits.rows (numbers s.count s.rows lawful.rows.tree.ordered lawful.rows.numbers)

-- ---- of what is found at a path

at_path : (test : AccountPath → Bool) (rows : Rows Body) → AreListable rows → IfSome (lookup test rows) IsEntryListable
at_path test [] all = tt
at_path test (r ∷ rows) all = elim (test r.0) as (λ b. IfSome (cond b (Some r.1) (lookup test rows)) IsEntryListable) [
  | true ↦ all.0
  | false ↦ at_path test rows all.1
]

pub entry_there : (rows : Rows Body) (p : AccountPath) (e : Entry Body) → AreListable rows → Some e ≡ at rows p → IsEntryListable e
entry_there rows p e all is = subst (λ (x : Option (Entry Body)). IfSome x IsEntryListable) (sym is) (at_path (is_path p) rows all)

pub number_there : (rows : Rows Body) (p : AccountPath) (o : Object Body) → AreListable rows → Some (entry.Object o) ≡ at rows p → o.number < 2 ^ 62
number_there rows p o all is = (entry_there rows p (entry.Object o) all is).1

-- ---- of what a reader finds

-- the object can be told
abbrev pub IsTellable : Result (Found (Object Body)) StoreError → Type 0
IsTellable (Ok found.Directory) = Unit {0}
IsTellable (Ok (found.Object o)) = IsEntryListable (entry.Object o)
IsTellable (Ok (found.NotModified o)) = IsEntryListable (entry.Object o)
IsTellable (Err e) = Unit {0}

by_judged : (j : Judged) (o : Object Body) → IsEntryListable (entry.Object o) → IsTellable (found_by j o)
by_judged says.Go o is = is
by_judged says.NotModified o is = is
by_judged says.Failed o is = tt

by_entry : (c : Conditions) (e : Option (Entry Body)) → IfSome e IsEntryListable → IsTellable (found_in c e)
by_entry c None is = tt
by_entry c (Some (entry.Directory mtime)) is = tt
by_entry c (Some (entry.Object o)) is = by_judged (judged c (Some o) true) o is

pub found_there : (rows : Rows Body) (p : AccountPath) (c : Conditions) (r : Result (Found (Object Body)) StoreError) → AreListable rows → r ≡ read_decision rows p c → IsTellable r
unfolding read_decision
found_there rows p c r all is = subst IsTellable (sym is) (by_entry c (at rows p) (at_path (is_path p) rows all))
