-- What is read can be written again.
use Rattle.std.proofs.Common.{◌≡◌, ℕ, ◌<◌, ◌^◌, Bool, true, false, cond, not, List, Option, Some, None, option_map, option_and_then, is_some, IfSome, ◌==◌, sym, subst, codes}
use Rattle.std.specs.Str.{is_utf8}
use Rattle.std.proofs.lemmas.Option.{option_and_then_some}
use Rattle.serde_json.specs.Data.{Data}
use Rattle.serde_json.specs.Find.{as_str, get}
use Rattle.serde_json.specs.Read.{read}
use Rattle.mt_types.specs.declared.document.Phase.{Phase}
use Rattle.mt_ident.specs.Identifiers.{identifier_number}
use Rattle.mt_ident.proofs.IdentifierTexts.{identifier_number-read}
use Rattle.mt_jobdoc.specs.Document.{passing}
use Rattle.mt_certline.specs.Read.{alone_in, begin_in, field, has_members, item_in, line_in, line_of, number_in, path_in, phases_in, task_in, true_in, whole_in}
use Rattle.mt_certline.specs.Written.{IsShowable}
use Rattle.mt_certline.specs.declared.line.Line.{Line}
use Rattle.mt_certline.specs.declared.line.Line.TheVariants.{Begin, End, Input, Output, Task}

small_number : (d : Data) (n : ℕ) → field (codes "id") number_in d ≡ Some n → n < 2 ^ 62
small_number d n found =
    option_and_then_some number_in (get (codes "id") d) n found (λ v at here.
    option_and_then_some (identifier_number 2) (as_str v) n here (λ text is number. (identifier_number-read 2 n text number).small))

begun : (job : ℕ) (phases : List Phase) (l : Line) → job < 2 ^ 62 → Some (Begin job phases) ≡ Some l → IsShowable l
begun job phases l small e = let same : Begin job phases ≡ l = cc in subst IsShowable same small

begin_showable : (login : List ℕ) (d : Data) (l : Line) → begin_in login d ≡ Some l → IsShowable l
unfolding begin_in
begin_showable login d l e = by (has_members 3 d) e
  where
    by : (b : Bool)
        → cond (not b) None (option_and_then (λ version. option_and_then (λ one. option_and_then (λ number. option_and_then (λ phases. Some (Begin number phases)) (phases_in login d)) (field (codes "id") number_in d)) (passing (λ v. v == 1) version)) (field (codes "certificate") whole_in d)) ≡ Some l
        → IsShowable l
    by false e = cc
    by true e =
        option_and_then_some _ (field (codes "certificate") whole_in d) l e (λ version at here.
        option_and_then_some _ (passing (λ v. v == 1) version) l here (λ one is next.
        option_and_then_some _ (field (codes "id") number_in d) l next (λ number found last.
        option_and_then_some _ (phases_in login d) l last (λ phases listed whole. begun number phases l (small_number d number found) whole))))

mapped : {A : Type 0} (f : A → Line) (o : Option A) (l : Line) → ((x : A) → IsShowable (f x)) → option_map f o ≡ Some l → IsShowable l
mapped f None l each e = cc
mapped f (Some x) l each e = let same : f x ≡ l = cc in subst IsShowable same (each x)

alone_showable : (login : List ℕ) (d : Data) (l : Line) → alone_in login d ≡ Some l → IsShowable l
unfolding alone_in
alone_showable login d l e = by (has_members 1 d) (is_some (get (codes "input") d)) (is_some (get (codes "output") d)) e
  where
    by : (a b c : Bool)
        → cond (not a) None (cond b (option_map (λ i. Input i) (field (codes "input") (item_in login) d)) (cond c (option_map (λ p. Output p) (field (codes "output") (path_in login) d)) (option_map (λ t. End) (field (codes "end") true_in d)))) ≡ Some l
        → IsShowable l
    by false b c e = cc
    by true true c e = mapped (λ i. Input i) (field (codes "input") (item_in login) d) l (λ i. tt) e
    by true false true e = mapped (λ p. Output p) (field (codes "output") (path_in login) d) l (λ p. tt) e
    by true false false e = mapped (λ t. End) (field (codes "end") true_in d) l (λ t. tt) e

value_showable : (login : List ℕ) (d : Data) (l : Line) → line_in login d ≡ Some l → IsShowable l
unfolding line_in
value_showable login d l e = by (is_some (get (codes "certificate") d)) (is_some (get (codes "phase") d)) e
  where
    by : (a b : Bool) → cond a (begin_in login d) (cond b (option_map (λ t. Task t) (task_in login d)) (alone_in login d)) ≡ Some l → IsShowable l
    by true b e = begin_showable login d l e
    by false true e = mapped (λ t. Task t) (task_in login d) l (λ t. tt) e
    by false false e = alone_showable login d l e

pub line_showable : (login text : List ℕ) (l : Line) → line_of login text ≡ Some l → IsShowable l
unfolding line_of
line_showable login text l e = option_and_then_some (line_in login) (cond (is_utf8 text) (read text) None) l e (λ d at here. value_showable login d l here)

pub answer_showable : (login text : List ℕ) (o : Option Line) → o ≡ line_of login text → IfSome o IsShowable
answer_showable login text None is = tt
answer_showable login text (Some l) is = line_showable login text l (sym is)
