-- A draft of payloads, as a whole and with more of them.
use Rattle.std.proofs.Common.{◌≡◌, ℕ, ◌+◌, false, List, [], ◌∷◌, ◌++◌, length, Option, Some, refl, sym, ap, subst, ◌∙◌, append_assoc, append-nil, arith, length-append}
use Rattle.std.specs.List.{flat_map}
use Rattle.std.specs.Prelude.{is_some}
use Rattle.std.proofs.lemmas.List.Concat.{flat_map-append}
use Rattle.mt_disk.specs.Files.{Files, contents}
use Rattle.mt_log.specs.LogImage.{AllFit, Holds, log_magic, log_size, record_of}
use Rattle.mt_log.specs.LogState.{LogState, told}
use Rattle.mt_log.specs.Places.{end_of}
use Rattle.mt_log.proofs.Appended.{fit-append}
use Rattle.mt_log.proofs.Places.{end_of-holds}
use Rattle.mt_log.proofs.Sizes.{log_size-holds}
use Rattle.mt_log.proofs.Told.{some_of, told_same}
use Rattle.mt_draft.specs.Drafts.{DraftState, Drafting, IsBegun, IsDrafted, KeepsLog, next_of}
use Rattle.mt_draft.specs.Steps.{Grew, IsOpenDraft}
use Rattle.mt_draft.proofs.Kept.{kept_log, same_list}

-- a draft and its closed gate are a log
pub holds_drafted : (qs : List (List ℕ)) → AllFit qs → Holds false ((log_magic ++ flat_map record_of qs) ++ 0 ∷ []) (length (log_magic ++ flat_map record_of qs)) qs
holds_drafted qs each = record { byte = 0; tail = []; shut = omega arith; place = refl; whole = refl; each = each }

next_size : (files : Files) (log : LogState) (draft : DraftState) (qs : List (List ℕ)) → IsDrafted files log draft qs → next_of draft ≡ length (log_magic ++ flat_map record_of qs)
next_size files log draft qs is = omega (arith, is.begun.size, ap length is.bytes, length-append (contents files draft.file) draft.held)

pub next_end : (files : Files) (log : LogState) (draft : DraftState) (qs : List (List ℕ)) → IsDrafted files log draft qs → next_of draft ≡ end_of qs
next_end files log draft qs is = next_size files log draft qs is ∙ end_of-holds false _ _ qs (holds_drafted qs is.each)

pub next_log_size : (files : Files) (log : LogState) (draft : DraftState) (qs : List (List ℕ)) → IsDrafted files log draft qs → next_of draft + 1 ≡ log_size qs
next_log_size files log draft qs is = omega (arith, next_size files log draft qs is, log_size-holds false _ _ qs (holds_drafted qs is.each))

-- records more
pub drafted_more : (files now : Files) (log : LogState) (old new : DraftState) (qs more : List (List ℕ)) → IsDrafted files log old qs → IsBegun now log new → AllFit more → Grew files now log old new (flat_map record_of more)
    → IsDrafted now log new (qs ++ more)
drafted_more files now log old new qs more is begun fit grew = record {
  begun = begun;
  bytes =
      grew.bytes ∙ ap (λ (l : List ℕ). l ++ flat_map record_of more) is.bytes ∙ append_assoc log_magic (flat_map record_of qs) (flat_map record_of more)
      ∙ ap (λ (l : List ℕ). log_magic ++ l) (sym (flat_map-append record_of qs more));
  each = fit-append qs more is.each fit;
}

-- one record
pub grew_record : (files now : Files) (log : LogState) (old new : DraftState) (p : List ℕ) → Grew files now log old new (record_of p) → Grew files now log old new (flat_map record_of (p ∷ []))
grew_record files now log old new p grew = subst (λ (l : List ℕ). Grew files now log old new l) (sym (append-nil (record_of p))) grew

module _ {D : Type 0} (seen : D → Option Files) (may_leave : D → Files → Type 0) where
  pub drafting_open : (disk : D) (log : LogState) (draft : DraftState) → Drafting seen may_leave disk log draft → (files : Files) → seen disk ≡ Some files → IsOpenDraft (may_leave disk) files log draft
  drafting_open disk log draft drafting files is = record { begun = (drafting files is).0.1.begun; images = (drafting files is).1 }

  -- the payloads of the log are as they were
  pub drafted_told : (old new : D) (log : LogState) (draft : DraftState) → Drafting seen may_leave old log draft → is_some (seen new) ≡ is_some (seen old)
      → ((files : Files) → seen old ≡ Some files → (now : Files) → seen new ≡ Some now → KeepsLog files log.file now) → told (seen new) ≡ told (seen old)
  drafted_told old new log draft drafting tells keeps = told_same (seen old) (seen new) tells (λ files is.
      let now = some_of (seen new) (seen old) files (sym tells) is in
      let begun = (drafting files is).0.1.begun in
      (now.0, now.1, same_list files now.0 (kept_log files log.file begun.log_is.is_chosen begun.firm now.0 (keeps files is now.0 now.1))))
