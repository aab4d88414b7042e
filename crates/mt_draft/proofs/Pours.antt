-- A draft while what is held of it is written.
use Rattle.std.proofs.Common.{◌≡◌, ℕ, ◌+◌, List, [], ◌++◌, length, take, drop, refl, sym, ap, subst, ◌∙◌, append_assoc, append-nil, arith, length-append}
use Rattle.std.proofs.lemmas.List.{drop_all, take_all}
use Rattle.mt_disk.specs.Files.{Files, contents, overwritten, with_contents}
use Rattle.mt_disk.proofs.FileLemmas.{contents-with}
use Rattle.mt_log.specs.LogState.{LogState}
use Rattle.mt_draft.specs.Drafts.{DraftState, IsBegun, KeepsBut, KeepsLog, drafted_bytes, other_of}
use Rattle.mt_draft.specs.Steps.{Grew, IsOpenDraft, Poured}
use Rattle.mt_draft.proofs.Buts.{but_changed, but_on, but_self, but_swap}
use Rattle.mt_draft.proofs.Kept.{kept_firm, kept_is}

-- a write at the end
pub overwritten_end : (old bytes : List ℕ) (at : ℕ) → at ≡ length old → overwritten old at bytes ≡ old ++ bytes
overwritten_end old bytes at is =
    let front : take at old ≡ old = take_all at old (omega (arith, is)) in
    let none : drop (at + length bytes) old ≡ [] = drop_all (at + length bytes) old (omega (arith, is)) in
    (λ i. front i ++ bytes ++ none i) ∙ append-nil (old ++ bytes)

-- what was held is behind what was written
pub poured_end : (files : Files) (old new : DraftState) → old.written ≡ length (contents files old.file) → new.file ≡ old.file → new.written ≡ old.written + length old.held → new.held ≡ []
    → Poured files (with_contents files old.file (overwritten (contents files old.file) old.written old.held)) old new
poured_end files old new at file_is written_is held_is =
    let bytes = contents files old.file in
    let now = with_contents files old.file (overwritten bytes old.written old.held) in
    let end : contents now old.file ≡ bytes ++ old.held = contents-with files old.file (overwritten bytes old.written old.held) ∙ overwritten_end bytes old.held old.written at in
    record {
      others = but_changed old.file files (overwritten bytes old.written old.held);
      bytes = ap (λ (l : List ℕ). contents now old.file ++ l) held_is ∙ append-nil (contents now old.file) ∙ end;
      size = omega (arith, at, written_is, ap length end, length-append bytes old.held);
      file = file_is;
    }

-- nothing was written
pub poured_none : (files : Files) (draft : DraftState) → draft.written ≡ length (contents files draft.file) → Poured files files draft draft
poured_none files draft at = record { others = but_self draft.file files; bytes = refl; size = at; file = refl }

-- more is held
pub begun_with : (files : Files) (log : LogState) (old mid : DraftState) → IsBegun files log old → mid.file ≡ old.file → mid.written ≡ old.written → IsBegun files log mid
begun_with files log old mid is file_is written_is = record {
  log_is = is.log_is;
  firm = is.firm;
  file = file_is ∙ is.file;
  size = written_is ∙ is.size ∙ ap (λ f. length (contents files f)) (sym file_is);
}

module _ (files now : Files) (log : LogState) (mid new : DraftState) (is : IsBegun files log mid) (poured : Poured files now mid new) where
  poured_keeps : KeepsLog files log.file now
  poured_keeps = subst (λ f. KeepsBut f files now) is.file poured.others

  -- a draft once it was poured
  pub open_poured : (may_leave : Files → Type 0) → ((c : Files) → may_leave c → KeepsBut mid.file files c) → IsOpenDraft may_leave now log new
  open_poured may_leave images = record {
    begun = record {
      log_is = kept_is files log is.log_is is.firm now poured_keeps;
      firm = kept_firm files log.file is.firm now poured_keeps;
      file = poured.file ∙ is.file;
      size = poured.size ∙ ap (λ f. length (contents now f)) (sym poured.file);
    };
    images = λ c left. but_swap (other_of log.file) files now c poured_keeps (subst (λ f. KeepsBut f files c) is.file (images c left));
  }

  -- with what was held before it
  pub grew_poured : (old : DraftState) (more : List ℕ) → mid.file ≡ old.file → mid.held ≡ old.held ++ more → Grew files now log old new more
  grew_poured old more file_is held_is = record {
    others = poured_keeps;
    bytes =
        ap (λ f. contents now f ++ new.held) poured.file ∙ poured.bytes ∙ (λ i. contents files (file_is i) ++ held_is i)
        ∙ sym (append_assoc (contents files old.file) old.held more);
  }

pub grew_none : (files : Files) (log : LogState) (draft : DraftState) → Grew files files log draft draft []
grew_none files log draft = record { others = but_self (other_of log.file) files; bytes = sym (append-nil (drafted_bytes files draft)) }

pub grew_on : (files mid now : Files) (log : LogState) (a b c : DraftState) (xs ys : List ℕ) → Grew files mid log a b xs → Grew mid now log b c ys → Grew files now log a c (xs ++ ys)
grew_on files mid now log a b c xs ys first second = record {
  others = but_on (other_of log.file) files mid now first.others second.others;
  bytes = second.bytes ∙ ap (λ (l : List ℕ). l ++ ys) first.bytes ∙ append_assoc (drafted_bytes files a) xs ys;
}
