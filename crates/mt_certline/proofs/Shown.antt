-- Values within values, documents within objects, and values that have one text.
use Rattle.std.proofs.Common.{◌≡◌, ℕ, ◌≤◌, Bool, true, false, not, ◌&&◌, bytes_eq, List, [], ◌∷◌, map, Option, Some, None, is_some, Result, Err, Ordering, Less, Equal, Greater, IsUtf8, refl, sym, ap, subst, ◌∙◌, arith}
use Rattle.std.specs.Cmp.Lexicographic.{slice_cmp}
use Rattle.std.specs.Ordering.{match_ordering, nat_cmp}
use Rattle.std.specs.Result.{result_ok}
use Rattle.std.proofs.lemmas.Bool.{false_from_ne_true, true≢false}
use Rattle.std.proofs.lemmas.Slice.Eq.{bytes_eq-Decides}
use Rattle.serde_json.specs.Data.{Data, Members, array, boolean, depth, items_depth, member, members_depth, no_members, null, number, object, string}
use Rattle.serde_json.specs.Find.{as_object, get, get_member}
use Rattle.serde_json.specs.Read.{read}
use Rattle.serde_json.specs.View.{items_of}
use Rattle.serde_json.specs.Written.{compact_text, has_float}
use Rattle.mt_path.specs.AccountPath.{AccountPath, path_text}
use Rattle.mt_types.specs.declared.document.JobDocument.{JobDocument}
use Rattle.mt_types.specs.declared.document.Phase.{Phase}
use Rattle.mt_types.specs.declared.document.PhaseKind.{PhaseKind}
use Rattle.mt_types.specs.declared.document.PhaseKind.TheVariants.{Map, Reduce}
use Rattle.mt_jobdoc.specs.Document.{IsUnlessMemory, and_then, document_in, document_of}
use Rattle.mt_jobdoc.specs.Printed.{phase_data, phases_data}
use Rattle.mt_jobdoc.specs.declared.error.InvalidJob.{InvalidJob}
use Rattle.mt_jobdoc.specs.declared.error.InvalidJob.TheVariants.{BadCount, BadPhase, Memory, NoPhases, NotJson, TooManyPhases}
use Rattle.mt_jobdoc.proofs.Objects.{is_object}
use Rattle.mt_certline.specs.Read.{is_same_value}

-- ---- depths

found_in : (o : Ordering) (n : ℕ) (e v : Data) (rest : Option Data) → ((w : Data) → Some w ≡ rest → depth w ≤ n) → depth e ≤ n → Some v ≡ match_ordering o rest (Some e) rest → depth v ≤ n
found_in Less n e v rest later here found = later v found
found_in Equal n e v rest later here found = let same : v ≡ e = cc in subst (λ x. depth x ≤ n) (sym same) here
found_in Greater n e v rest later here found = later v found

member_depth : (n : ℕ) (k : List ℕ) (ms : Members) (v : Data) → members_depth ms ≤ n → Some v ≡ get_member k ms → depth v ≤ n
member_depth n k no_members v within found = cc
member_depth n k (member l e ms) v within found =
    found_in (slice_cmp nat_cmp k l) n e v (get_member k ms) (λ w here. member_depth n k ms w (omega (arith, within)) here) (omega (arith, within)) found

pub get_depth : (n : ℕ) (k : List ℕ) (d v : Data) → depth d ≤ n → Some v ≡ get k d → depth v ≤ n
get_depth n k null v within found = cc
get_depth n k (boolean b) v within found = cc
get_depth n k (number x) v within found = cc
get_depth n k (string s) v within found = cc
get_depth n k (array ds) v within found = cc
get_depth n k (object ms) v within found = member_depth n k ms v (omega (arith, within)) found

names_depth : (login : List ℕ) (ps : List AccountPath) → items_depth (items_of (map (λ p. string (path_text login p)) ps)) ≤ 0
names_depth login [] = omega arith
names_depth login (p ∷ ps) = omega (arith, names_depth login ps)

phase_depth : (login : List ℕ) (kind : PhaseKind) (exec : List ℕ) (init : Option (List ℕ)) (assets : List AccountPath)
    → depth (phase_data login (record { kind = kind; exec = exec; init = init; assets = assets })) ≤ 2
unfolding phase_data
phase_depth login Map exec None assets = omega (arith, names_depth login assets)
phase_depth login Map exec (Some init) assets = omega (arith, names_depth login assets)
phase_depth login (Reduce count) exec None assets = omega (arith, names_depth login assets)
phase_depth login (Reduce count) exec (Some init) assets = omega (arith, names_depth login assets)

list_depth : (login : List ℕ) (ps : List Phase) → items_depth (items_of (map (phase_data login) ps)) ≤ 2
list_depth login [] = omega arith
list_depth login (p ∷ ps) = omega (arith, phase_depth login p.kind p.exec p.init p.assets, list_depth login ps)

pub phases_depth : (login : List ℕ) (d : JobDocument) → depth (phases_data login d) ≤ 3
unfolding phases_data
phases_depth login d = omega (arith, list_depth login d.phases)

-- ---- documents

pub document_is : (login text : List ℕ) (d : Data) → IsUtf8 text → read text ≡ Some d → is_some (as_object d) ≡ true → document_of login text ≡ document_in login d
unfolding document_of
document_is login text d utf8 is whole = ap (λ (r : Result Data InvalidJob). and_then r (document_in login)) (is_object text d utf8 is whole)

pub no_document : (answer : Result JobDocument InvalidJob) (e : InvalidJob) → IsUnlessMemory answer (Err e) → (e ≡ Memory → ⊥) → None ≡ result_ok answer
no_document answer NotJson is other = sym (ap result_ok is)
no_document answer NoPhases is other = sym (ap result_ok is)
no_document answer TooManyPhases is other = sym (ap result_ok is)
no_document answer (BadPhase k) is other = sym (ap result_ok is)
no_document answer (BadCount k) is other = sym (ap result_ok is)
no_document answer Memory is other = absurd (other refl)

-- ---- one text

module _ (d e : Data) (s t : List ℕ) (plain : has_float e ≡ false) (text : has_float d ≡ false → s ≡ compact_text d) (reads : read s ≡ Some d) (other_text : t ≡ compact_text e) (other_reads : read t ≡ Some e) where
  same_value : s ≡ t → d ≡ e
  same_value same = let both : Some d ≡ Some e = sym reads ∙ (ap read same ∙ other_reads) in cc

  pub same_exact : bytes_eq s t ≡ is_same_value d e
  same_exact = by (has_float d) refl
    where
      by : (b : Bool) → has_float d ≡ b → bytes_eq s t ≡ is_same_value d e
      by false is =
          ap (λ x. bytes_eq x t) (text is) ∙ (ap (λ x. bytes_eq (compact_text d) x) other_text
          ∙ sym (ap (λ b. not b && bytes_eq (compact_text d) (compact_text e)) is))
      by true is =
          false_from_ne_true (bytes_eq s t)
          (λ same. true≢false (sym is ∙ (ap has_float (same_value ((bytes_eq-Decides s t).0 same)) ∙ plain)))
          ∙ sym (ap (λ b. not b && bytes_eq (compact_text d) (compact_text e)) is)
