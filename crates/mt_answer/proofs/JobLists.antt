-- Jobs of a list, and pages of them.
use Rattle.std.proofs.Common.{◌≡◌, ℕ, ◌<◌, ◌≤◌, ◌^◌, ◌==◌, Bool, true, false, cond, List, [], ◌∷◌, take, map, zero, suc, Bor, All, Option, Some, refl, sym, ap, subst, ◌∙◌}
use Rattle.std.specs.Prelude.{nat_le}
use Rattle.std.specs.List.{AllByRecursion, filter}
use Rattle.std.proofs.lemmas.Option.{same_Some}
use Rattle.mt_base.specs.declared.limits.TheConstants.{LAST_MOMENT}
use Rattle.mt_ident.specs.Identifiers.{is_from}
use Rattle.mt_jobs.specs.Pages.{page_of, standing, stands}
use Rattle.mt_jobtext.specs.Pieces.{IsShowable}
use Rattle.mt_model.specs.State.{job_at}
use Rattle.mt_request.specs.declared.query.Page.{Page}
use Rattle.mt_types.specs.declared.body.Body.{Body}
use Rattle.mt_types.specs.declared.job.Job.{Job}
use Rattle.mt_types.specs.declared.live.JobStand.{JobStand}
use Rattle.mt_answer.specs.JobAnswer.{jobs_page}
use Rattle.mt_answer.specs.JobLaws.{AreShowable}
use Rattle.mt_answer.proofs.Pages.{by_place, kept, taken}

here : (b : Bool) (x j : Job Body) (rest : Option (Job Body)) → IsShowable x → (Some j ≡ rest → IsShowable j) → Some j ≡ cond b (Some x) rest → IsShowable j
here true x j rest shows more is = subst IsShowable (sym (same_Some _ _ is)) shows
here false x j rest shows more is = more is

-- a job that is there can be told
pub found_showable : (js : List (Job Body)) (n : ℕ) (j : Job Body) → AreShowable js → Some j ≡ job_at js n → IsShowable j
found_showable [] n j all is = absurd (cc)
found_showable (x ∷ js) n j all is = here (x.number == n) x j (job_at js n) all.0 (λ there. found_showable js n j all.1 there) is

-- ---- a page, by its marker

module _ {X : Type 0} (P : X → Type 0) (p q : X → Bool) where
  both : (b c : Bool) (x : X) (xs ys : List X) → b ≡ c → xs ≡ ys → cond b (x ∷ xs) xs ≡ cond c (x ∷ ys) ys
  both true true x xs ys same rest = ap (λ (zs : List X). x ∷ zs) rest
  both false false x xs ys same rest = rest
  both true false x xs ys same rest = absurd (cc)
  both false true x xs ys same rest = absurd (cc)

  -- tests that are the same on each
  same_filter : (xs : List X) → AllByRecursion P xs → ((x : X) → P x → p x ≡ q x) → filter p xs ≡ filter q xs
  same_filter [] all same = refl
  same_filter (x ∷ xs) all same = both (p x) (q x) x (filter p xs) (filter q xs) (same x all.0) (same_filter xs all.1 same)

no_filter : {X : Type 0} → (xs : List X) → filter (λ x. false) xs ≡ []
no_filter [] = refl
no_filter (x ∷ xs) = no_filter xs

take_nothing : {X : Type 0} → (n : ℕ) (xs : List X) → xs ≡ [] → take n xs ≡ []
take_nothing zero xs is = refl
take_nothing (suc n) [] is = refl
take_nothing (suc n) (x ∷ xs) is = absurd (cc)

stood : (stand : JobStand) (js : List (Job Body)) → AreShowable js → AreShowable (standing stand js)
stood stand js all = kept IsShowable (stands stand) js all

module _ (stand : JobStand) (page : Page) (js : List (Job Body)) where
  -- from the least number whose name isn't below the marker
  pub page_from : (from : ℕ) → AreShowable js → ((m : ℕ) → m < 2 ^ 62 → is_from 2 page.marker m ≡ nat_le from m) → page_of stand from page.limit js ≡ jobs_page stand page js
  page_from from all same =
      ap (take page.limit) (same_filter IsShowable (λ (j : Job Body). nat_le from j.number) (λ (j : Job Body). is_from 2 page.marker j.number) (standing stand js) (stood stand js all)
      (λ j shows. sym (same j.number shows.number)))

  -- where each name is below it
  pub page_none : AreShowable js → ((m : ℕ) → m < 2 ^ 62 → is_from 2 page.marker m ≡ false) → jobs_page stand page js ≡ []
  page_none all none =
      take_nothing page.limit (filter (λ (j : Job Body). is_from 2 page.marker j.number) (standing stand js))
      (same_filter IsShowable (λ (j : Job Body). is_from 2 page.marker j.number) (λ (j : Job Body). false) (standing stand js) (stood stand js all) (λ j shows. none j.number shows.number)
      ∙ no_filter (standing stand js))

-- the jobs of a page can be told
pub page_showable : (stand : JobStand) (js : List (Job Body)) (from limit : ℕ) → AreShowable js → AreShowable (page_of stand from limit js)
page_showable stand js from limit all =
    taken IsShowable limit (filter (λ (j : Job Body). nat_le from j.number) (standing stand js)) (kept IsShowable (λ (j : Job Body). nat_le from j.number) (standing stand js) (stood stand js all))

numbers_in : (page : List (Bor (Job Body))) → AreShowable (map (λ j. j.now) page) → AllByRecursion (λ j. j.now.number < 2 ^ 62) page
numbers_in [] all = tt
numbers_in (j ∷ page) all = (all.0.number, numbers_in page all.1)

pub numbers_of_page : (page : List (Bor (Job Body))) → AreShowable (map (λ j. j.now) page) → All (λ j. j.now.number < 2 ^ 62) page
numbers_of_page page all = by_place (λ j. j.now.number < 2 ^ 62) page (numbers_in page all)

moments_in : (page : List (Bor (Job Body))) → AreShowable (map (λ j. j.now) page) → AllByRecursion (λ j. j.now.created ≤ LAST_MOMENT) page
moments_in [] all = tt
moments_in (j ∷ page) all = (all.0.created, moments_in page all.1)

pub moments_of_page : (page : List (Bor (Job Body))) → AreShowable (map (λ j. j.now) page) → All (λ j. j.now.created ≤ LAST_MOMENT) page
moments_of_page page all = by_place (λ j. j.now.created ≤ LAST_MOMENT) page (moments_in page all)
