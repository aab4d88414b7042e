-- The whole draft goes to its file, with a closed gate behind it.
use Rattle.std.proofs.Common.{◌≡◌, ℕ, List, [], ◌∷◌, ◌++◌, Option, Some, None, is_some, true≢false, refl, sym, ap, ◌∙◌, append-nil, option_map}
use Rattle.std.specs.Option.{ForSome}
use Rattle.mt_disk.specs.declared.disk.FileNo.{FileNo}
use Rattle.mt_disk.specs.Files.{Files, contents, overwritten, with_contents}
use Rattle.mt_disk.proofs.FileLemmas.{with-with}
use Rattle.mt_draft.specs.Drafts.{DraftState, drafted_bytes}
use Rattle.mt_draft.specs.Steps.{Poured, sealed}
use Rattle.mt_draft.proofs.Pours.{overwritten_end}

-- a byte behind what is written
abbrev pub gated : FileNo → ℕ → Files → Files
gated file at files = with_contents files file (overwritten (contents files file) at (0 ∷ []))

gated_poured : (files now : Files) (old mid : DraftState) (at : ℕ) → Poured files now old mid → mid.held ≡ [] → at ≡ mid.written → gated old.file at now ≡ sealed old files
gated_poured files now old mid at poured none at_is =
    let f = old.file in
    let whole : contents now f ≡ drafted_bytes files old = sym (append-nil (contents now f)) ∙ ap (λ (l : List ℕ). contents now f ++ l) (sym none) ∙ poured.bytes in
    let end : overwritten (contents now f) at (0 ∷ []) ≡ drafted_bytes files old ++ 0 ∷ [] = overwritten_end (contents now f) (0 ∷ []) at (at_is ∙ poured.size) ∙ ap (λ (l : List ℕ). l ++ 0 ∷ []) whole in
    ap (with_contents now f) end ∙ ap (λ x. with_contents x f (drafted_bytes files old ++ 0 ∷ [])) poured.others ∙ with-with files f (contents now f) (drafted_bytes files old ++ 0 ∷ [])

pub sealed_seen : (was between now : Option Files) (old mid : DraftState) (file : FileNo) (at : ℕ) → is_some between ≡ is_some was → ForSome was (λ files. ForSome between (λ x. Poured files x old mid)) → mid.held ≡ []
    → file ≡ old.file → at ≡ mid.written → now ≡ option_map (gated file at) between → now ≡ option_map (sealed old) was
sealed_seen None None now old mid file at tells poured none file_is at_is is = is
sealed_seen None (Some x) now old mid file at tells poured none file_is at_is is = absurd (true≢false tells)
sealed_seen (Some files) None now old mid file at tells poured none file_is at_is is = absurd (true≢false (sym tells))
sealed_seen (Some files) (Some x) now old mid file at tells poured none file_is at_is is =
    is ∙ ap (λ f. Some (gated f at x)) file_is ∙ ap (λ y. Some y) (gated_poured files x old mid at (poured files refl x refl) none at_is)

-- as much is told
pub mapped_tells : (f : Files → Files) (was now : Option Files) → now ≡ option_map f was → is_some now ≡ is_some was
mapped_tells f None now is = ap is_some is
mapped_tells f (Some files) now is = ap is_some is
