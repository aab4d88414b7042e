-- Jobs that are taken from a list.
use Rattle.std.proofs.Common.{◌≡◌, ◌≤◌, ◌∷◌, ℕ, zero, suc, length, Bool, true, false, not, ◌||◌, List, [], Option, Some, None, refl, sym, ap, subst}
use Rattle.std.specs.Borrow.{Bor}
use Rattle.std.specs.Prelude.{All, IfSome, is_some, option_copied, slice_get}
use Rattle.std.specs.List.Sorted.{IsStrictlySortedBy}
use Rattle.std.specs.Option.{unwrap_or}
use Rattle.std.specs.Ordering.{nat_cmp}
use Rattle.std.proofs.lemmas.List.Elements.{All-head, All-nil, All-tail, All-weaker}
use Rattle.mt_types.specs.WellMade.{IsDocument}
use Rattle.mt_types.specs.declared.body.Body.{Body}
use Rattle.mt_types.specs.declared.job.Job.{Job}
use Rattle.mt_types.specs.declared.job.TraceEntry.{TraceEntry}
use Rattle.mt_types.specs.declared.limits.TheConstants.{MOST_RECORDS}
use Rattle.mt_types.specs.declared.refusal.Refusal.TheVariants.{JobState}
use Rattle.mt_model.specs.Feed.{items_of}
use Rattle.mt_model.specs.Lawful.{LawfulItem, LawfulJob}
use Rattle.mt_model.specs.Rows.{refuse_if}
use Rattle.mt_jobs.specs.Listed.{IsWellMadeEntry, LawfulList}
use Rattle.mt_jobs.proofs.Allowed.{all_at}

none_rise : IsStrictlySortedBy nat_cmp []
unfolding IsStrictlySortedBy
none_rise = tt

pub no_jobs : (count : ℕ) (jobs : List (Job Body)) → jobs ≡ [] → LawfulList count jobs
no_jobs count jobs is = subst (LawfulList count) (sym is) (record { rising = none_rise; each = All-nil (LawfulJob count) })

pub none_open : (ended : Bool) (o : Option ℕ) → ended ≡ false → is_some o ≡ false → refuse_if (ended || not (not (is_some o))) JobState ≡ None
none_open false None is none = refl
none_open false (Some x) is none = cc
none_open true o is none = cc

pub documents : (count : ℕ) (jobs : List (Job Body)) → LawfulList count jobs → All (λ j. IsDocument j.document) jobs
documents count jobs lawful = All-weaker (LawfulJob count) (λ j. IsDocument j.document) (λ j l. l.document) jobs lawful.each

pub lawful_at : (count : ℕ) (jobs : List (Job Body)) (place : ℕ) (o : Option (Bor (Job Body))) → All (LawfulJob count) jobs → option_copied o ≡ slice_get jobs place → IfSome o (λ j. (count : ℕ) × LawfulJob count j.now)
lawful_at count jobs place None all is = tt
lawful_at count jobs place (Some j) all is = (count, all_at (LawfulJob count) jobs place j.now all (sym is))

entry_of : (P : TraceEntry Body → Type 0) (trace : List (TraceEntry Body)) (place : ℕ) (e : TraceEntry Body) → All P trace → slice_get trace place ≡ Some e → P e
entry_of P [] place e all at = cc
entry_of P (x ∷ xs) zero e all at = subst P (ap (λ o. unwrap_or o x) at) (All-head P x xs all)
entry_of P (x ∷ xs) (suc place) e all at = entry_of P xs place e (All-tail P x xs all) at

pub made_entry : (count : ℕ) (job : Job Body) (place : ℕ) (e : TraceEntry Body) → LawfulJob count job → slice_get job.trace place ≡ Some e → IsWellMadeEntry e
made_entry count job place e law at = record {
  few = entry_of (λ e. length (items_of e.outcome) ≤ MOST_RECORDS) job.trace place e law.few_each at;
  outputs = entry_of (λ e. All LawfulItem (items_of e.outcome)) job.trace place e law.outputs at;
}
