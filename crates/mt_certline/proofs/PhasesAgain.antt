-- The phases of a document are read from what is printed of them.
use Rattle.std.proofs.Common.{◌≡◌, ℕ, ◌+◌, ◌<◌, ◌≤◌, ◌==◌, suc, true, false, List, [], ◌∷◌, map, length, Option, Some, None, option_map, option_and_then, Result, Ok, refl, ap, ◌∙◌, arith, codes, IfSome, IsUtf8}
use Rattle.std.proofs.lemmas.List.{length-map}
use Rattle.std.specs.List.{AllByRecursion}
use Rattle.std.specs.Result.{result_ok}
use Rattle.std.proofs.lemmas.Bool.{and_parts, le-leb, leb-true, ne_eqb}
use Rattle.json.proofs.Printed.Utf8.{IsUtf8-are_ascii}
use Rattle.serde_json.specs.Data.{Data, string}
use Rattle.mt_path.specs.AccountPath.{AccountPath, IsLogin, IsPath, path_text}
use Rattle.mt_path.proofs.Printed.{path_of_text-printed}
use Rattle.mt_path.proofs.Texts.{IsUtf8-path_text}
use Rattle.mt_types.specs.Limits.{is_command_line, is_count}
use Rattle.mt_types.specs.WellMade.{IsDocument, IsDocumentPhase}
use Rattle.mt_types.specs.declared.document.Phase.{Phase}
use Rattle.mt_types.specs.declared.document.PhaseKind.{PhaseKind}
use Rattle.mt_types.specs.declared.document.PhaseKind.TheVariants.{Map, Reduce}
use Rattle.mt_jobdoc.specs.Document.{and_then, asset_in, assets_of, by_assets, document_in, few_assets, init_named, passing, phase_of, phases_of}
use Rattle.mt_jobdoc.specs.Printed.{assets_data, phase_data, phases_data}
use Rattle.mt_jobdoc.specs.declared.error.InvalidJob.{InvalidJob}
use Rattle.mt_jobdoc.proofs.Faults.{a_document, a_phase}
use Rattle.mt_jobdoc.proofs.Objects.{list_of-items_of, some-few}
use Rattle.mt_jobdoc.proofs.PhaseLists.{phases-cons, phases-nil}
use Rattle.mt_certline.specs.Laws.{IsOfTexts}
use Rattle.mt_certline.specs.Written.{begin_data, nameless}
use Rattle.mt_certline.proofs.Kept.{Kept, all_kept, deeper, kept_list, kept_map, kept_map_init, kept_reduce, kept_reduce_init, kept_string, kept_whole}
use Rattle.std.specs.Prelude.{◌^◌}
use Rattle.mt_certline.proofs.Logins.{IsUtf8-login}

abbrev names_data : List ℕ → List AccountPath → List Data
names_data login ps = map (λ p. string (path_text login p)) ps

small_count : (n : ℕ) → is_count n ≡ true → n < 2 ^ 64
small_count n is = omega (arith, leb-true n 1024 (and_parts _ _ is).1)

module _ (login : List ℕ) (named : IsLogin login) where
  asset_again : (p : AccountPath) → IsPath p → asset_in login (string (path_text login p)) ≡ Some p
  asset_again p is = ap result_ok (path_of_text-printed login p named is)

  assets_again : (ps : List AccountPath) → AllByRecursion IsPath ps → assets_of login (names_data login ps) ≡ Some ps
  assets_again [] all = refl
  assets_again (p ∷ ps) all =
      ap (option_and_then (λ q. option_map (λ qs. q ∷ qs) (assets_of login (names_data login ps)))) (asset_again p all.0)
      ∙ ap (option_map (λ qs. p ∷ qs)) (assets_again ps all.1)

  few_again : (ps : List AccountPath) → length ps ≤ 64 → AllByRecursion IsPath ps → few_assets login (names_data login ps) ≡ Some ps
  few_again ps few all =
      let fits : length (names_data login ps) ≤ 64 = omega (arith, length-map ps (λ p. string (path_text login p)), few) in
      rw (le-leb (length (names_data login ps)) 64 fits) (assets_again ps all)

  pub list_again : (ps : List AccountPath) → length ps ≤ 64 → AllByRecursion IsPath ps → by_assets login (Some (assets_data login ps)) ≡ Some ps
  list_again ps few all = ap (few_assets login) (list_of-items_of (names_data login ps)) ∙ few_again ps few all

  command_again : (t : List ℕ) → is_command_line t ≡ true → passing is_command_line t ≡ Some t
  command_again t is = rw is refl

  init_again : (t : List ℕ) → is_command_line t ≡ true → init_named t ≡ Some (Some t)
  init_again [] is = cc
  init_again (x ∷ xs) is =
      let some : length (x ∷ xs) == 0 ≡ false = ne_eqb (length (x ∷ xs)) 0 (λ e. let none : suc (length xs) ≡ 0 = e in absurd (omega (arith, none))) in
      rw (some, is) refl

  count_again : (n : ℕ) → is_count n ≡ true → passing is_count n ≡ Some n
  count_again n is = rw is refl

  by_kind : (k : ℕ) (kind : PhaseKind) (exec : List ℕ) (init : Option (List ℕ)) (assets : List AccountPath)
      → IsDocumentPhase (record { kind = kind; exec = exec; init = init; assets = assets })
      → phase_of login k (phase_data login (record { kind = kind; exec = exec; init = init; assets = assets })) ≡ Ok (record { kind = kind; exec = exec; init = init; assets = assets })
  unfolding phase_data
  by_kind k Map exec None assets is =
      a_phase login k _ false exec None assets refl (command_again exec is.exec) refl (list_again assets is.few is.assets) Map refl
  by_kind k Map exec (Some init) assets is =
      a_phase login k _ false exec (Some init) assets refl (command_again exec is.exec) (init_again init is.init) (list_again assets is.few is.assets) Map refl
  by_kind k (Reduce count) exec None assets is =
      a_phase login k _ true exec None assets refl (command_again exec is.exec) refl (list_again assets is.few is.assets) (Reduce count) (rw is.kind refl)
  by_kind k (Reduce count) exec (Some init) assets is =
      a_phase login k _ true exec (Some init) assets refl (command_again exec is.exec) (init_again init is.init) (list_again assets is.few is.assets) (Reduce count) (rw is.kind refl)

  phase_again : (k : ℕ) (p : Phase) → IsDocumentPhase p → phase_of login k (phase_data login p) ≡ Ok p
  phase_again k p is = by_kind k p.kind p.exec p.init p.assets is

  phases_again : (k : ℕ) (ps : List Phase) → AllByRecursion IsDocumentPhase ps → phases_of login k (map (phase_data login) ps) ≡ Ok ps
  phases_again k [] all = phases-nil login k
  phases_again k (p ∷ ps) all =
      phases-cons login k (phase_data login p) (map (phase_data login) ps)
      ∙ (ap (λ (r : Result Phase InvalidJob). and_then r (λ q. and_then (phases_of login (k + 1) (map (phase_data login) ps)) (λ qs. Ok (q ∷ qs)))) (phase_again k p all.0)
      ∙ ap (λ (r : Result (List Phase) InvalidJob). and_then r (λ qs. Ok (p ∷ qs))) (phases_again (k + 1) ps all.1))

  -- and so is the document that stands in the first line of a certificate
  pub document_again : (job : ℕ) (phases : List Phase) → IsDocument (nameless phases) → document_in login (begin_data login job phases) ≡ Ok (nameless phases)
  unfolding begin_data phases_data
  document_again job phases is =
      let ds = map (phase_data login) phases in
      let same = length-map phases (phase_data login) in
      a_document login _ ds phases [] (rw (list_of-items_of ds) (some-few ds (omega (arith, same, is.some)) (omega (arith, same, is.few)))) (phases_again 0 phases is.phases) refl

  -- ---- the text of phases

  assets_kept : (ps : List AccountPath) → AllByRecursion IsPath ps → Kept 1 (assets_data login ps)
  assets_kept ps all = kept_list 0 (names_data login ps) (all_kept IsPath 0 (λ p. string (path_text login p)) (λ p is. kept_string (path_text login p) (IsUtf8-path_text login p (IsUtf8-login login named) is)) ps all)

  word_kept : (s : List ℕ) → IsUtf8 s → Kept 1 (string s)
  word_kept s text = deeper 0 1 (string s) (omega arith) (kept_string s text)

  kind_kept : (kind : PhaseKind) (exec : List ℕ) (init : Option (List ℕ)) (assets : List AccountPath)
      → IsDocumentPhase (record { kind = kind; exec = exec; init = init; assets = assets }) → IsUtf8 exec → IfSome init IsUtf8
      → Kept 2 (phase_data login (record { kind = kind; exec = exec; init = init; assets = assets }))
  unfolding phase_data
  kind_kept Map exec None assets is text before =
      kept_map 1 _ _ _ (assets_kept assets is.assets) (word_kept exec text) (word_kept (codes "map") (IsUtf8-are_ascii _ refl))
  kind_kept Map exec (Some init) assets is text before =
      kept_map_init 1 _ _ _ _ (assets_kept assets is.assets) (word_kept exec text) (word_kept init before) (word_kept (codes "map") (IsUtf8-are_ascii _ refl))
  kind_kept (Reduce count) exec None assets is text before =
      kept_reduce 1 _ _ _ _ (assets_kept assets is.assets) (deeper 0 1 _ (omega arith) (kept_whole count (small_count count is.kind))) (word_kept exec text) (word_kept (codes "reduce") (IsUtf8-are_ascii _ refl))
  kind_kept (Reduce count) exec (Some init) assets is text before =
      kept_reduce_init 1 _ _ _ _ _ (assets_kept assets is.assets) (deeper 0 1 _ (omega arith) (kept_whole count (small_count count is.kind))) (word_kept exec text) (word_kept init before) (word_kept (codes "reduce") (IsUtf8-are_ascii _ refl))

  both : (ps : List Phase) → AllByRecursion IsDocumentPhase ps → AllByRecursion IsOfTexts ps → AllByRecursion (Kept 2) (map (phase_data login) ps)
  both [] all texts = tt
  both (p ∷ ps) all texts = (kind_kept p.kind p.exec p.init p.assets all.0 texts.0.exec texts.0.init, both ps all.1 texts.1)

  pub phases_kept : (phases : List Phase) → AllByRecursion IsDocumentPhase phases → AllByRecursion IsOfTexts phases → Kept 3 (phases_data login (nameless phases))
  unfolding phases_data
  phases_kept phases all texts = kept_list 2 (map (phase_data login) phases) (both phases all texts)
