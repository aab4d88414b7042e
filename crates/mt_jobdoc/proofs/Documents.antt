-- What is read is a document.
use Rattle.std.proofs.Common.{◌≡◌, ℕ, ◌+◌, ◌≤◌, Bool, true, false, cond, List, [], ◌∷◌, length, refl, sym, ◌∙◌, subst, arith, Option, Some, None, option_map, option_and_then, Result, Ok, Err, codes, ◌==◌, IfSome}
use Rattle.std.specs.Option.{ok_or}
use Rattle.std.specs.Result.{result_ok}
use Rattle.std.specs.List.{AllByRecursion}
use Rattle.std.proofs.lemmas.Bool.{leb-true, ltb-false}
use Rattle.std.specs.Prelude.{nat_le, nat_lt}
use Rattle.serde_json.specs.Data.{Data}
use Rattle.serde_json.specs.Find.{get, as_str, as_array, as_number, as_u64}
use Rattle.mt_path.specs.AccountPath.{AccountPath, IsPath}
use Rattle.mt_path.specs.Names.{AreNames, area_of, names_of, path_in, path_of, path_of_text, text_pieces, and_then as path_and_then}
use Rattle.mt_path.specs.declared.area.Area.{Area}
use Rattle.mt_path.specs.declared.error.PathError.{PathError}
use Rattle.mt_path.proofs.Judged.{AreNames-from_names_of, IsPath-from_names}
use Rattle.mt_types.specs.Limits.{is_command_line, is_count}
use Rattle.mt_types.specs.WellMade.{HasReducers, IsDocumentPhase, IsDocument}
use Rattle.mt_types.specs.declared.document.PhaseKind.{PhaseKind}
use Rattle.mt_types.specs.declared.document.PhaseKind.TheVariants.{Map, Reduce}
use Rattle.mt_types.specs.declared.document.Phase.{Phase}
use Rattle.mt_types.specs.declared.document.JobDocument.{JobDocument}
use Rattle.mt_jobdoc.specs.declared.error.InvalidJob.{InvalidJob}
use Rattle.mt_jobdoc.specs.declared.error.InvalidJob.TheVariants.{BadPhase, BadCount, TooManyPhases}
use Rattle.mt_jobdoc.specs.Document.{and_then, passing, reduces_in, exec_in, init_in, init_named, by_init, assets_in, asset_in, assets_of, few_assets, by_assets, list_of, by_count, count_in, kind_in, phase_of, phases_of, object_of, some_phases, listed, name_in, document_in, document_of}
use Rattle.mt_jobdoc.proofs.PhaseLists.{phases-cons, phases-nil}

-- ---- what passes a test

by_test : {A : Type 0} (test : A → Bool) (y x : A) (b : Bool) → test y ≡ b → cond b (Some y) None ≡ Some x → test x ≡ true
by_test test y x true is found = let e : y ≡ x = cc in subst (λ z. test z ≡ true) e is
by_test test y x false is found = absurd (cc)

passing-true : {A : Type 0} (test : A → Bool) (y x : A) → passing test y ≡ Some x → test x ≡ true
passing-true test y x found = by_test test y x (test y) refl found

then_passing : {A : Type 0} (test : A → Bool) (o : Option A) (x : A) → option_and_then (passing test) o ≡ Some x → test x ≡ true
then_passing test None x found = absurd (cc)
then_passing test (Some y) x found = passing-true test y x found

-- ---- a phase

exec-fits : (d : Data) (x : List ℕ) → exec_in d ≡ Some x → is_command_line x ≡ true
exec-fits d x found = then_passing is_command_line (option_and_then as_str (get (codes "exec") d)) x found

abbrev InitFits : Option (List ℕ) → Type 0
InitFits init = IfSome init (λ t. is_command_line t ≡ true)

some_init : (o : Option (List ℕ)) (init : Option (List ℕ)) → ((x : List ℕ) → o ≡ Some x → is_command_line x ≡ true) → option_map (λ t. Some t) o ≡ Some init → InitFits init
some_init None init fits found = absurd (cc)
some_init (Some t) init fits found = let e : Some t ≡ init = cc in subst InitFits e (fits t refl)

named_init : (b : Bool) (t : List ℕ) (init : Option (List ℕ)) → cond b (Some None) (option_map (λ x. Some x) (passing is_command_line t)) ≡ Some init → InitFits init
named_init true t init found = let e : None ≡ init = cc in subst InitFits e tt
named_init false t init found = some_init (passing is_command_line t) init (passing-true is_command_line t) found

text_init : (o : Option (List ℕ)) (init : Option (List ℕ)) → option_and_then init_named o ≡ Some init → InitFits init
text_init None init found = absurd (cc)
text_init (Some t) init found = named_init (length t == 0) t init found

init-fits : (o : Option Data) (init : Option (List ℕ)) → by_init o ≡ Some init → InitFits init
init-fits None init found = let e : None ≡ init = cc in subst InitFits e tt
init-fits (Some v) init found = text_init (as_str v) init found

abbrev ArePaths : List AccountPath → Type 0
ArePaths ps = AllByRecursion IsPath ps

by_area : (area : Option Area) (name : List ℕ) (parts : List (List ℕ)) (p : AccountPath) → ((a : Area) → area ≡ Some a → IsPath (record { area = a; parts = parts })) → path_in area parts ≡ Ok p → IsPath p
by_area None name parts p each found = absurd (cc)
by_area (Some a) name parts p each found =
    let whole : AccountPath = record { area = a; parts = parts } in
    let e : whole ≡ p = cc in
    subst IsPath e (each a refl)

of_names : (names : List (List ℕ)) (p : AccountPath) → AreNames names → path_of names ≡ Ok p → IsPath p
unfolding path_of
of_names [] p are found = absurd (cc)
of_names (name ∷ parts) p are found = by_area (area_of name) name parts p (λ a. IsPath-from_names name parts a are) found

by_names : (r : Result (List (List ℕ)) PathError) (p : AccountPath) → ((names : List (List ℕ)) → r ≡ Ok names → AreNames names) → path_and_then r path_of ≡ Ok p → IsPath p
by_names (Err e) p are found = absurd (cc)
by_names (Ok names) p are found = of_names names p (are names refl) found

-- a path that a text names is one
path-ok : (login text : List ℕ) (p : AccountPath) → path_of_text login text ≡ Ok p → IsPath p
path-ok login text p found = by_names (names_of login (text_pieces login text)) p (AreNames-from_names_of login (text_pieces login text)) found

named_asset : (r : Result AccountPath PathError) (p : AccountPath) → ((q : AccountPath) → r ≡ Ok q → IsPath q) → result_ok r ≡ Some p → IsPath p
named_asset (Err e) p each found = absurd (cc)
named_asset (Ok q) p each found = let e : q ≡ p = cc in subst IsPath e (each q refl)

text_asset : (login : List ℕ) (o : Option (List ℕ)) (p : AccountPath) → option_and_then (λ text. result_ok (path_of_text login text)) o ≡ Some p → IsPath p
text_asset login None p found = absurd (cc)
text_asset login (Some text) p found = named_asset (path_of_text login text) p (path-ok login text) found

asset-path : (login : List ℕ) (d : Data) (p : AccountPath) → asset_in login d ≡ Some p → IsPath p
asset-path login d p found = text_asset login (as_str d) p found

rest_paths : (login : List ℕ) (p : AccountPath) (o : Option (List AccountPath)) (ps : List AccountPath) (n : ℕ) → IsPath p → ((qs : List AccountPath) → o ≡ Some qs → (length qs ≡ n) × ArePaths qs)
    → option_map (λ qs. p ∷ qs) o ≡ Some ps → (length ps ≡ n + 1) × ArePaths ps
rest_paths login p None ps n is each found = absurd (cc)
rest_paths login p (Some qs) ps n is each found =
    let e : p ∷ qs ≡ ps = cc in
    let both = each qs refl in
    subst (λ l. (length l ≡ n + 1) × ArePaths l) e (omega (arith, both.0), (is, both.1))

first_path : (login : List ℕ) (o : Option AccountPath) (rest : Option (List AccountPath)) (ps : List AccountPath) (n : ℕ) → ((p : AccountPath) → o ≡ Some p → IsPath p)
    → ((qs : List AccountPath) → rest ≡ Some qs → (length qs ≡ n) × ArePaths qs) → option_and_then (λ p. option_map (λ qs. p ∷ qs) rest) o ≡ Some ps → (length ps ≡ n + 1) × ArePaths ps
first_path login None rest ps n first each found = absurd (cc)
first_path login (Some p) rest ps n first each found = rest_paths login p rest ps n (first p refl) each found

assets-paths : (login : List ℕ) (ds : List Data) (ps : List AccountPath) → assets_of login ds ≡ Some ps → (length ps ≡ length ds) × ArePaths ps
assets-paths login [] ps found = let e : [] ≡ ps = cc in subst (λ l. (length l ≡ 0) × ArePaths l) e (refl, tt)
assets-paths login (d ∷ ds) ps found =
    let both = first_path login (asset_in login d) (assets_of login ds) ps (length ds) (asset-path login d) (assets-paths login ds) found in
    (omega (arith, both.0), both.1)

abbrev AssetsFit : List AccountPath → Type 0
AssetsFit ps = (length ps ≤ 64) × ArePaths ps

few_fit : (b : Bool) (login : List ℕ) (ds : List Data) (ps : List AccountPath) → nat_le (length ds) 64 ≡ b → cond b (assets_of login ds) None ≡ Some ps → AssetsFit ps
few_fit true login ds ps is found = let both = assets-paths login ds ps found in (omega (arith, both.0, leb-true (length ds) 64 is), both.1)
few_fit false login ds ps is found = absurd (cc)

list_fits : (login : List ℕ) (o : Option (List Data)) (ps : List AccountPath) → option_and_then (few_assets login) o ≡ Some ps → AssetsFit ps
list_fits login None ps found = absurd (cc)
list_fits login (Some ds) ps found = few_fit (nat_le (length ds) 64) login ds ps refl found

assets-fit : (login : List ℕ) (o : Option Data) (ps : List AccountPath) → by_assets login o ≡ Some ps → AssetsFit ps
assets-fit login None ps found = let e : [] ≡ ps = cc in subst AssetsFit e (omega arith, tt)
assets-fit login (Some v) ps found = list_fits login (option_map list_of (as_array v)) ps found

count-fits : (o : Option Data) (n : ℕ) → by_count o ≡ Some n → is_count n ≡ true
count-fits None n found = let e : 1 ≡ n = cc in subst (λ k. is_count k ≡ true) e refl
count-fits (Some v) n found = then_passing is_count (option_and_then as_u64 (as_number v)) n found

some_reducers : (k : ℕ) (o : Option ℕ) (kind : PhaseKind) → ((n : ℕ) → o ≡ Some n → is_count n ≡ true) → and_then (ok_or o (BadCount k)) (λ n. Ok (Reduce n)) ≡ Ok kind → HasReducers kind
some_reducers k None kind fits found = absurd (cc)
some_reducers k (Some n) kind fits found = let e : Reduce n ≡ kind = cc in subst HasReducers e (fits n refl)

kind-fits : (k : ℕ) (r : Bool) (d : Data) (kind : PhaseKind) → kind_in k r d ≡ Ok kind → HasReducers kind
kind-fits k false d kind found = let e : Map ≡ kind = cc in subst HasReducers e tt
kind-fits k true d kind found = some_reducers k (count_in d) kind (count-fits (get (codes "count") d)) found

module _ (k : ℕ) (p : Phase) where
  by_kind : (kind : Result PhaseKind InvalidJob) (exec : List ℕ) (init : Option (List ℕ)) (assets : List AccountPath) → ((x : PhaseKind) → kind ≡ Ok x → HasReducers x)
      → is_command_line exec ≡ true → InitFits init → AssetsFit assets → and_then kind (λ x. Ok (record { kind = x; exec = exec; init = init; assets = assets })) ≡ Ok p → IsDocumentPhase p
  by_kind (Err e) exec init assets kinds command before named found = absurd (cc)
  by_kind (Ok x) exec init assets kinds command before named found =
      let whole : Phase = record { kind = x; exec = exec; init = init; assets = assets } in
      let e : whole ≡ p = cc in
      subst IsDocumentPhase e record { kind = kinds x refl; exec = command; init = before; few = named.0; assets = named.1 }

  by_parts : (r : Option Bool) (exec : Option (List ℕ)) (init : Option (Option (List ℕ))) (assets : Option (List AccountPath)) (kind : Bool → Result PhaseKind InvalidJob)
      → ((x : List ℕ) → exec ≡ Some x → is_command_line x ≡ true) → ((x : Option (List ℕ)) → init ≡ Some x → InitFits x) → ((x : List AccountPath) → assets ≡ Some x → AssetsFit x)
      → ((b : Bool) (x : PhaseKind) → kind b ≡ Ok x → HasReducers x)
      → and_then (ok_or r (BadPhase k)) (λ reduces. and_then (ok_or exec (BadPhase k)) (λ e. and_then (ok_or init (BadPhase k)) (λ i. and_then (ok_or assets (BadPhase k)) (λ a.
      and_then (kind reduces) (λ x. Ok (record { kind = x; exec = e; init = i; assets = a })))))) ≡ Ok p → IsDocumentPhase p
  by_parts None exec init assets kind command before named kinds found = absurd (cc)
  by_parts (Some r) None init assets kind command before named kinds found = absurd (cc)
  by_parts (Some r) (Some e) None assets kind command before named kinds found = absurd (cc)
  by_parts (Some r) (Some e) (Some i) None kind command before named kinds found = absurd (cc)
  by_parts (Some r) (Some e) (Some i) (Some a) kind command before named kinds found = by_kind (kind r) e i a (kinds r) (command e refl) (before i refl) (named a refl) found

phase-document : (login : List ℕ) (k : ℕ) (d : Data) (p : Phase) → phase_of login k d ≡ Ok p → IsDocumentPhase p
unfolding phase_of
phase-document login k d p found =
    by_parts k p (reduces_in d) (exec_in d) (init_in d) (assets_in login d) (λ r. kind_in k r d) (exec-fits d) (init-fits (get (codes "init") d)) (assets-fit login (get (codes "assets") d)) (λ r. kind-fits k r d) found

-- ---- a document

abbrev ArePhases : List Phase → Type 0
ArePhases ps = AllByRecursion IsDocumentPhase ps

rest_phases : (p : Phase) (rest : Result (List Phase) InvalidJob) (ps : List Phase) (n : ℕ) → IsDocumentPhase p → ((qs : List Phase) → rest ≡ Ok qs → (length qs ≡ n) × ArePhases qs)
    → and_then rest (λ qs. Ok (p ∷ qs)) ≡ Ok ps → (length ps ≡ n + 1) × ArePhases ps
rest_phases p (Err e) ps n is each found = absurd (cc)
rest_phases p (Ok qs) ps n is each found =
    let e : p ∷ qs ≡ ps = cc in
    let both = each qs refl in
    subst (λ l. (length l ≡ n + 1) × ArePhases l) e (omega (arith, both.0), (is, both.1))

first_phase : (first : Result Phase InvalidJob) (rest : Result (List Phase) InvalidJob) (ps : List Phase) (n : ℕ) → ((p : Phase) → first ≡ Ok p → IsDocumentPhase p)
    → ((qs : List Phase) → rest ≡ Ok qs → (length qs ≡ n) × ArePhases qs) → and_then first (λ p. and_then rest (λ qs. Ok (p ∷ qs))) ≡ Ok ps → (length ps ≡ n + 1) × ArePhases ps
first_phase (Err e) rest ps n one each found = absurd (cc)
first_phase (Ok p) rest ps n one each found = rest_phases p rest ps n (one p refl) each found

no_phase : (ps : List Phase) → and_then {A = List Phase} {B = List Phase} (Ok []) (λ qs. Ok qs) ≡ Ok ps → (length ps ≡ 0) × ArePhases ps
no_phase ps found = let e : [] ≡ ps = cc in subst (λ l. (length l ≡ 0) × ArePhases l) e (refl, tt)

phases-documents : (login : List ℕ) (k : ℕ) (ds : List Data) (ps : List Phase) → phases_of login k ds ≡ Ok ps → (length ps ≡ length ds) × ArePhases ps
phases-documents login k [] ps found = no_phase ps (sym (phases-nil login k) ∙ found)
phases-documents login k (d ∷ ds) ps found =
    let both = first_phase (phase_of login k d) (phases_of login (k + 1) ds) ps (length ds) (phase-document login k d) (phases-documents login (k + 1) ds) (sym (phases-cons login k d ds) ∙ found) in
    (omega (arith, both.0), both.1)

few_listed : (b : Bool) (d : Data) (ds xs : List Data) → nat_lt 16 (length (d ∷ ds)) ≡ b → cond b (Err TooManyPhases) (Ok (d ∷ ds)) ≡ Ok xs → (1 ≤ length xs) × (length xs ≤ 16)
few_listed true d ds xs is found = absurd (cc)
few_listed false d ds xs is found =
    let e : d ∷ ds ≡ xs = cc in
    subst (λ l. (1 ≤ length l) × (length l ≤ 16)) e (omega arith, ltb-false 16 (length (d ∷ ds)) is)

listed-few : (o : Option (List Data)) (xs : List Data) → some_phases o ≡ Ok xs → (1 ≤ length xs) × (length xs ≤ 16)
listed-few None xs found = absurd (cc)
listed-few (Some []) xs found = absurd (cc)
listed-few (Some (d ∷ ds)) xs found = few_listed (nat_lt 16 (length (d ∷ ds))) d ds xs refl found

by_phases : (name : List ℕ) (phases : Result (List Phase) InvalidJob) (n : ℕ) (d : JobDocument) → 1 ≤ n → n ≤ 16 → ((ps : List Phase) → phases ≡ Ok ps → (length ps ≡ n) × ArePhases ps)
    → and_then phases (λ ps. Ok (record { name = name; phases = ps })) ≡ Ok d → IsDocument d
by_phases name (Err e) n d some few each found = absurd (cc)
by_phases name (Ok ps) n d some few each found =
    let whole : JobDocument = record { name = name; phases = ps } in
    let e : whole ≡ d = cc in
    let both = each ps refl in
    subst IsDocument e record { some = omega (arith, both.0); few = omega (arith, both.0); phases = both.1 }

by_list : (login : List ℕ) (name : List ℕ) (list : Result (List Data) InvalidJob) (d : JobDocument) → ((ds : List Data) → list ≡ Ok ds → (1 ≤ length ds) × (length ds ≤ 16))
    → and_then list (λ ds. and_then (phases_of login 0 ds) (λ ps. Ok (record { name = name; phases = ps }))) ≡ Ok d → IsDocument d
by_list login name (Err e) d few found = absurd (cc)
by_list login name (Ok ds) d few found =
    let both = few ds refl in
    by_phases name (phases_of login 0 ds) (length ds) d both.0 both.1 (phases-documents login 0 ds) found

object-document : (login : List ℕ) (v : Data) (d : JobDocument) → document_in login v ≡ Ok d → IsDocument d
unfolding document_in
object-document login v d found = by_list login (name_in v) (listed v) d (listed-few (option_and_then (λ l. option_map list_of (as_array l)) (get (codes "phases") v))) found

by_object : (login : List ℕ) (o : Result Data InvalidJob) (d : JobDocument) → and_then o (document_in login) ≡ Ok d → IsDocument d
by_object login (Err e) d found = absurd (cc)
by_object login (Ok v) d found = object-document login v d found

pub document-document : (login bytes : List ℕ) (d : JobDocument) → document_of login bytes ≡ Ok d → IsDocument d
unfolding document_of
document-document login bytes d found = by_object login (object_of bytes) d found
