-- The begin of a draft: Head names the log's file, and the other one is emptied.
use Rattle.std.proofs.Common.{◌≡◌, ◌≤◌, ℕ, List, [], ◌++◌, length, Option, Some, refl, sym, ap, subst, ◌∙◌, option_map}
use Rattle.std.specs.Option.{ForSome}
use Rattle.std.proofs.lemmas.Option.{same_Some}
use Rattle.mt_disk.specs.Files.{Files, contents}
use Rattle.mt_disk.specs.CrashModel.{LeavesOnly, Only}
use Rattle.mt_disk.proofs.FileLemmas.{contents-with}
use Rattle.mt_disk.proofs.Moments.{joins, leaves_now}
use Rattle.mt_log.specs.LogImage.{IsLogOf, SameLog, log_magic}
use Rattle.mt_log.specs.LogState.{LogState}
use Rattle.mt_draft.specs.Drafts.{DraftState, IsDrafted, KeepsBut, KeepsLog, other_of}
use Rattle.mt_draft.specs.Steps.{IsMended, with_none}
use Rattle.mt_draft.proofs.Buts.{but_changed, but_self, but_swap}
use Rattle.mt_draft.proofs.Kept.{kept_firm, kept_is, kept_log, log_no_head, naming_keeps, same_chosen, same_is, same_on}

-- a draft without a payload
abbrev pub first_draft : LogState → ℕ → DraftState
first_draft log limit = record { file = other_of log.file; written = 0; held = log_magic; limit = limit }

module _ {D : Type 0} (seen : D → Option Files) (may_leave : D → Files → Type 0) (moment : D → ℕ) (left_since : D → ℕ → Files → Type 0) (old mid new : D) (log : LogState)
    (stands : ForSome (seen old) (λ files. Only files (may_leave old) × IsLogOf files log.file log.gate log.is_old)) (mended : ForSome (seen old) (λ files. IsMended seen may_leave mid files log.file))
    (run : (files : Files) → ((c : Files) → may_leave mid c → KeepsBut (other_of log.file) files c) → LeavesOnly moment left_since mid new (KeepsBut (other_of log.file) files)) where
  module _ (files : Files) (is : seen old ≡ Some files) where
    now : Files
    now = (mended files is).now

    log_same : contents now log.file ≡ contents files log.file
    unfolding now
    log_same = let at = mended files is in naming_keeps files at.now log.file (log_no_head files log.file (stands files is).1.is_chosen) at.others

    log_now : IsLogOf now log.file log.gate log.is_old
    unfolding now
    log_now = same_is files (mended files is).now log (stands files is).1 (mended files is).is_chosen log_same

    same_now : SameLog files now
    unfolding now
    same_now = same_chosen files (mended files is).now log.file (stands files is).1.is_chosen (mended files is).is_chosen log_same

    emptying : LeavesOnly moment left_since mid new (KeepsLog now log.file)
    unfolding now
    emptying = run (mended files is).now (λ c left. subst (λ x. KeepsLog (mended files is).now log.file x) (sym ((mended files is).durable c left)) (but_self (other_of log.file) (mended files is).now))

    -- while the other file is emptied
    pub begins_leave : LeavesOnly moment left_since old mid (SameLog files) → LeavesOnly moment left_since old new (SameLog files)
    unfolding now
    begins_leave first =
        let at = mended files is in
        joins moment left_since old mid new (SameLog files) (KeepsLog at.now log.file) (SameLog files) first emptying (λ c same. same) (λ c kept. same_on files at.now c same_now (kept_log at.now log.file at.is_chosen at.firm c kept))

    -- and then
    module _ (limit : ℕ) (after : Files) (cleared : seen new ≡ option_map (with_none (other_of log.file)) (seen mid)) (after_is : seen new ≡ Some after) where
      is_after : with_none (other_of log.file) now ≡ after
      unfolding now
      is_after = same_Some _ _ (sym (cleared ∙ ap (option_map (with_none (other_of log.file))) (mended files is).seen_is) ∙ after_is)

      keeps_after : KeepsLog now log.file after
      keeps_after = subst (λ x. KeepsLog now log.file x) is_after (but_changed (other_of log.file) now [])

      pub begins_drafted : IsDrafted after log (first_draft log limit) []
      unfolding now
      begins_drafted =
          let at = mended files is in
          let none : contents after (other_of log.file) ≡ [] = ap (λ x. contents x (other_of log.file)) (sym is_after) ∙ contents-with at.now (other_of log.file) [] in
          record {
            begun = record {
              log_is = kept_is at.now log log_now at.firm after keeps_after;
              firm = kept_firm at.now log.file at.firm after keeps_after;
              file = refl;
              size = sym (ap (λ (l : List ℕ). length l) none);
            };
            bytes = ap (λ (l : List ℕ). l ++ log_magic) none;
            each = tt;
          }

      pub begins_images : ((t : ℕ) (c : Files) → t ≤ moment new → may_leave new c → left_since new t c) → (c : Files) → may_leave new c → KeepsLog after log.file c
      begins_images counts_now c left = but_swap (other_of log.file) now after c keeps_after (leaves_now moment left_since may_leave mid new (KeepsLog now log.file) emptying counts_now c left)

      pub begins_same : SameLog files after
      unfolding now
      begins_same = let at = mended files is in same_on files at.now after same_now (kept_log at.now log.file at.is_chosen at.firm after keeps_after)
