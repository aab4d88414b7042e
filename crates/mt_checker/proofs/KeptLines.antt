-- What is kept behind a line is what is to be kept of the stage behind it.
use Rattle.std.proofs.Common.{◌≡◌, ℕ, ◌+◌, ◌<◌, ◌≤◌, ◌==◌, zero, suc, Bool, true, false, cond, not, ◌&&◌, List, [], ◌∷◌, ◌++◌, map, length, slice_get, Option, Some, None, is_some, option_and_then, refl, sym, ap, subst, ◌∙◌, arith}
use Rattle.std.specs.List.{AllByRecursion}
use Rattle.std.specs.Option.{option_map_or}
use Rattle.std.specs.declared.alloc.Global.{Global}
use Rattle.std.specs.declared.vec.Vec.{Vec}
use Rattle.std.proofs.lemmas.Bool.{and_left, and_right, ne_eqb}
use Rattle.std.proofs.lemmas.List.{length-map, length_push}
use Rattle.mt_types.specs.declared.document.PhaseKind.{PhaseKind}
use Rattle.mt_model.specs.Types.{AccountPath, Item, Phase}
use Rattle.mt_model.specs.Finished.{outputs_of}
use Rattle.mt_model.specs.Rows.{is_path}
use Rattle.mt_certline.specs.Certificate.{Progress, follows_in, job_so_far, output_follows}
use Rattle.mt_certline.specs.Read.{line_of}
use Rattle.mt_certline.specs.declared.line.Line.{Line}
use Rattle.mt_certline.specs.declared.line.Line.TheVariants as line
use Rattle.mt_certline.specs.declared.line.Listed.{Listed}
use Rattle.mt_certline.specs.declared.line.Sum.{Sum}
use Rattle.mt_checker.specs.Stages.{Beginning, Listing, Over, Stage, after, after_in, begun, first, with_input, with_output, with_task}
use Rattle.mt_checker.specs.Feeds.{Feed, feed_of, with_read}
use Rattle.mt_checker.specs.Sheets.{Sheet, entered, may_follow}
use Rattle.mt_checker.specs.Kept.{Gathers, HasListed, IsNamed, IsOpenSheet, IsSheet, Keeps, Reaches, Stands, is_bare, kind_at, kinds_of, stage_after}
use Rattle.mt_checker.specs.declared.state.Standing.{Standing}
use Rattle.mt_checker.specs.declared.state.State.{State}
use Rattle.mt_checker.specs.declared.state.State.TheVariants as kept
use Rattle.mt_checker.proofs.Fed.{fed_one}
use Rattle.mt_checker.proofs.Opened.{first_is, follows_same, sheet_with}

not_nil : {A : Type 0} (xs : List A) (x : A) → length (xs ++ x ∷ []) == 0 ≡ false
not_nil xs x = ne_eqb (length (xs ++ x ∷ [])) 0 (λ e. let none : length (xs ++ x ∷ []) ≡ 0 = e in absurd (omega (arith, none, length_push xs x)))

-- ---- the first line

pub begun_gathers : (phases : List Phase) (kinds : List PhaseKind) (f : Feed) → kinds ≡ kinds_of phases → f ≡ feed_of (slice_get kinds 0) [] → Gathers (begun phases) kinds f
begun_gathers phases kinds f same is = record {
  tasks = refl;
  outputs = refl;
  cuts = sym same;
  feed = is ∙ ap (λ k. feed_of k []) (ap (λ ks. slice_get ks 0) same ∙ first_kind phases);
}
  where
    first_kind : (ps : List Phase) → slice_get (kinds_of ps) 0 ≡ kind_at ps 0
    first_kind [] = refl
    first_kind (p ∷ ps) = refl

module _ (g : Progress) where
  -- ---- inputs

  input_taken : (i : Item Sum) → g.tasks ≡ [] → g.outputs ≡ [] → after_in g (line.Input i) ≡ Some (Listing (with_input g i))
  input_taken i tasks outputs =
      ap (λ ts. cond ((length ts == 0) && (length g.outputs == 0)) (Some (Listing (with_input g i))) None) tasks
      ∙ ap (λ ps. cond (length ps == 0) (Some (Listing (with_input g i))) None) outputs

  pub input_kept : (kinds : Vec PhaseKind Global) (f h : Feed) (i : Item Sum) → h ≡ with_read f i → Gathers g kinds.items f → Keeps (kept.Inputs kinds h) (after_in g (line.Input i))
  input_kept kinds f h i is gathers =
      let on : Gathers (with_input g i) kinds.items h = record {
        tasks = gathers.tasks;
        outputs = gathers.outputs;
        cuts = gathers.cuts;
        feed = is ∙ (ap (λ x. with_read x i) gathers.feed ∙ fed_one (kind_at g.phases 0) g.inputs i);
      } in
      subst (Keeps (kept.Inputs kinds h)) (sym (input_taken i gathers.tasks gathers.outputs)) on

  pub input_late : (i : Item Sum) → is_bare g ≡ false → after_in g (line.Input i) ≡ None
  input_late i more = ap (λ b. cond b (Some (Listing (with_input g i))) None) more

  pub gathers_reaches : (kinds : List PhaseKind) (f : Feed) → Gathers g kinds f → Reaches g 0 f
  gathers_reaches kinds f gathers = record {
    inside = omega arith;
    behind = λ k q lt at. absurd (omega (arith, lt));
    below = subst (AllByRecursion (λ t. t.phase < 0)) (sym gathers.tasks) tt;
    outputs = gathers.outputs;
    feed = gathers.feed;
  }

  -- ---- tasks

  pub task_refused : (s : Sheet) (l : Listed) → IsOpenSheet g s → may_follow s l ≡ false → after_in g (line.Task l) ≡ None
  task_refused s l stands not_so =
      ap (λ b. cond ((length g.outputs == 0) && b) (Some (Listing (with_task g l))) None) (sym (follows_same g stands.phase s stands.sheet stands.some l) ∙ not_so)
      ∙ ap (λ b. cond b (Some (Listing (with_task g l))) None) (and_right (length g.outputs == 0) false refl)

  task_taken : (s : Sheet) (l : Listed) → IsOpenSheet g s → may_follow s l ≡ true → after_in g (line.Task l) ≡ Some (Listing (with_task g l))
  task_taken s l stands may =
      ap (λ b. cond ((length g.outputs == 0) && b) (Some (Listing (with_task g l))) None) (sym (follows_same g stands.phase s stands.sheet stands.some l) ∙ may)
      ∙ ap (λ ps. cond ((length ps == 0) && true) (Some (Listing (with_task g l))) None) stands.sheet.outputs

  pub task_kept : (kinds : Vec PhaseKind Global) (s new : Sheet) (l : Listed) (t : Standing) → kinds_of g.phases ≡ kinds.items → IsOpenSheet g s → may_follow s l ≡ true → new ≡ entered s l
      → ((h : Progress) (p : Phase) → kinds_of h.phases ≡ kinds.items → IsSheet h p new → Stands h t) → Keeps (kept.Listed kinds t) (after_in g (line.Task l))
  task_kept kinds s new l t same stands may is settled =
      let on : HasListed (with_task g l) kinds.items t = record {
        cuts = same;
        stands = settled (with_task g l) stands.phase same (subst (IsSheet (with_task g l) stands.phase) (sym is) (sheet_with g stands.phase s stands.sheet l may));
        more = and_left _ _ (not_nil g.tasks l);
      } in
      subst (Keeps (kept.Listed kinds t)) (sym (task_taken s l stands may)) on

  -- no task follows where each phase is listed whole
  pub task_late : (names : List AccountPath) (next : ℕ) (l : Listed) → IsNamed g names next → after_in g (line.Task l) ≡ None
  task_late names next l named =
      ap (λ o. cond ((length g.outputs == 0) && option_map_or (follows_in g l) o false) (Some (Listing (with_task g l))) None) named.none
      ∙ ap (λ b. cond b (Some (Listing (with_task g l))) None) (and_right (length g.outputs == 0) false refl)

  -- ---- outputs

  name_slice : (items : List (Item Sum)) (k : ℕ) (p : AccountPath) → option_map_or (λ n. is_path n p) (slice_get (map (λ i. i.name) items) k) false ≡ option_map_or (λ i. is_path i.name p) (slice_get items k) false
  name_slice [] zero p = refl
  name_slice [] (suc k) p = refl
  name_slice (i ∷ items) zero p = refl
  name_slice (i ∷ items) (suc k) p = name_slice items k p

  due_follows : (names : List AccountPath) (next : ℕ) (p : AccountPath) → IsNamed g names next → output_follows g p ≡ option_map_or (λ n. is_path n p) (slice_get names next) false
  due_follows names next p named =
      ap (λ o. not (is_some o) && option_map_or (λ i. is_path i.name p) (slice_get (outputs_of (job_so_far g)) (length g.outputs)) false) named.none
      ∙ (sym (name_slice (outputs_of (job_so_far g)) (length g.outputs) p)
      ∙ (ap (λ ns. option_map_or (λ n. is_path n p) (slice_get ns (length g.outputs)) false) (sym named.named)
      ∙ ap (λ k. option_map_or (λ n. is_path n p) (slice_get names k) false) (sym named.count)))

  past_names : (names : List AccountPath) (next : ℕ) (p : AccountPath) → length names ≤ next → option_map_or (λ n. is_path n p) (slice_get names next) false ≡ false
  past_names [] zero p past = refl
  past_names [] (suc k) p past = refl
  past_names (n ∷ names) zero p past = absurd (omega (arith, past))
  past_names (n ∷ names) (suc k) p past = past_names names k p (omega (arith, past))

  pub output_past : (names : List AccountPath) (next : ℕ) (p : AccountPath) → IsNamed g names next → length names ≤ next → after_in g (line.Output p) ≡ None
  output_past names next p named past = ap (λ b. cond b (Some (Listing (with_output g p))) None) (due_follows names next p named ∙ past_names names next p past)

  pub output_refused : (names : List AccountPath) (next : ℕ) (p : AccountPath) → IsNamed g names next → option_map_or (λ n. is_path n p) (slice_get names next) false ≡ false → after_in g (line.Output p) ≡ None
  output_refused names next p named not_so = ap (λ b. cond b (Some (Listing (with_output g p))) None) (due_follows names next p named ∙ not_so)

  output_taken : (names : List AccountPath) (next : ℕ) (p : AccountPath) → IsNamed g names next → option_map_or (λ n. is_path n p) (slice_get names next) false ≡ true → after_in g (line.Output p) ≡ Some (Listing (with_output g p))
  output_taken names next p named may = ap (λ b. cond b (Some (Listing (with_output g p))) None) (due_follows names next p named ∙ may)

  name_on : (names : List AccountPath) (next : ℕ) (p : AccountPath) → IsNamed g names next → IsNamed (with_output g p) names (next + 1)
  name_on names next p named = record { none = named.none; named = named.named; count = omega (arith, named.count, length_push g.outputs p) }

  pub output_kept : (kinds : Vec PhaseKind Global) (names : List AccountPath) (next : ℕ) (t : Standing) (p : AccountPath) → kinds_of g.phases ≡ kinds.items → IsNamed g names next
      → option_map_or (λ n. is_path n p) (slice_get names next) false ≡ true → (IsNamed (with_output g p) names (next + 1) → Stands (with_output g p) t) → Keeps (kept.Listed kinds t) (after_in g (line.Output p))
  output_kept kinds names next t p same named may stands =
      let on : HasListed (with_output g p) kinds.items t = record {
        cuts = same;
        stands = stands (name_on names next p named);
        more = and_right (length g.tasks == 0) _ (not_nil g.outputs p);
      } in
      subst (Keeps (kept.Listed kinds t)) (sym (output_taken names next p named may)) on

  -- none follows where a phase is open
  pub output_early : (s : Sheet) (p : AccountPath) → IsOpenSheet g s → after_in g (line.Output p) ≡ None
  output_early s p stands =
      ap (λ o. cond (not (is_some o) && option_map_or (λ i. is_path i.name p) (slice_get (outputs_of (job_so_far g)) (length g.outputs)) false) (Some (Listing (with_output g p))) None)
      (first_is g stands.phase s stands.sheet stands.some)

  -- ---- the end

  pub end_early : (s : Sheet) → IsOpenSheet g s → after_in g line.End ≡ None
  end_early s stands = ap (λ o. cond (not (is_some o) && (length g.outputs == length (outputs_of (job_so_far g)))) (Some Over) None) (first_is g stands.phase s stands.sheet stands.some)

  pub end_named : (names : List AccountPath) (next : ℕ) (b : Bool) → IsNamed g names next → next == length names ≡ b → after_in g line.End ≡ cond b (Some Over) None
  end_named names next b named is =
      ap (λ o. cond (not (is_some o) && (length g.outputs == length (outputs_of (job_so_far g)))) (Some Over) None) named.none
      ∙ ap (λ c. cond c (Some Over) None)
      (ap (λ n. length g.outputs == n) (sym (length-map (outputs_of (job_so_far g)) (λ i. i.name)) ∙ ap length (sym named.named)) ∙ (ap (λ n. n == length names) (sym named.count) ∙ is))

-- ---- any stage

pub from_start : (t : State) (l : Line) → Keeps t (first l) → (s : Option Stage) → Keeps kept.Start s → Keeps t (option_and_then (λ u. after u l) s)
from_start t l is None k = cc
from_start t l is (Some Beginning) k = is
from_start t l is (Some (Listing g)) k = absurd k
from_start t l is (Some Over) k = cc

pub from_inputs : (kinds : Vec PhaseKind Global) (f : Feed) (t : State) (l : Line) → ((g : Progress) → Gathers g kinds.items f → Keeps t (after_in g l)) → (s : Option Stage) → Keeps (kept.Inputs kinds f) s → Keeps t (option_and_then (λ u. after u l) s)
from_inputs kinds f t l is None k = cc
from_inputs kinds f t l is (Some Beginning) k = cc
from_inputs kinds f t l is (Some (Listing g)) k = is g k
from_inputs kinds f t l is (Some Over) k = cc

pub from_listed : (kinds : Vec PhaseKind Global) (w : Standing) (t : State) (l : Line) → ((g : Progress) → HasListed g kinds.items w → Keeps t (after_in g l)) → (s : Option Stage) → Keeps (kept.Listed kinds w) s → Keeps t (option_and_then (λ u. after u l) s)
from_listed kinds w t l is None k = cc
from_listed kinds w t l is (Some Beginning) k = cc
from_listed kinds w t l is (Some (Listing g)) k = is g k
from_listed kinds w t l is (Some Over) k = cc

pub from_done : (l : Line) (s : Option Stage) → Keeps kept.Done s → Keeps kept.Refused (option_and_then (λ u. after u l) s)
from_done l None k = cc
from_done l (Some Beginning) k = cc
from_done l (Some (Listing g)) k = absurd k
from_done l (Some Over) k = refl

pub from_refused : (l : Line) (s : Option Stage) → Keeps kept.Refused s → Keeps kept.Refused (option_and_then (λ u. after u l) s)
from_refused l None k = refl
from_refused l (Some Beginning) k = cc
from_refused l (Some (Listing g)) k = absurd k
from_refused l (Some Over) k = cc

-- a text that is no line leads to no stage
pub no_line : (login text : List ℕ) (o : Option Line) (s : Option Stage) → line_of login text ≡ o → o ≡ None → stage_after login s text ≡ None
no_line login text o None is none = refl
no_line login text o (Some t) is none = ap (option_and_then (after t)) (is ∙ none)

-- the stage behind a text that is a line
pub line_after : (login text : List ℕ) (l : Line) (s : Option Stage) → line_of login text ≡ Some l → stage_after login s text ≡ option_and_then (λ u. after u l) s
line_after login text l None is = refl
line_after login text l (Some t) is = ap (option_and_then (after t)) is
