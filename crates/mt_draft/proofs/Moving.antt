-- The draft takes the log's place: what a crash leaves at each moment reads as the log or as the draft.
use Rattle.std.proofs.Common.{◌≡◌, ◌⊎◌, inl, inr, ⊎_elim, ℕ, ◌<◌, Bool, true, false, List, [], ◌∷◌, ◌++◌, length, Ok, Some, refl, sym, ap, subst, ◌∙◌, arith, length-append}
use Rattle.std.specs.List.{flat_map}
use Rattle.mt_disk.specs.declared.disk.FileNo.{FileNo}
use Rattle.mt_disk.specs.declared.disk.FileNo.TheVariants.{Head, One, Two}
use Rattle.mt_disk.specs.Files.{Files, contents, with_contents}
use Rattle.mt_disk.proofs.FileLemmas.{contents-with}
use Rattle.mt_log.specs.LogImage.{AllFit, SameLog, chosen_file, log_by, log_magic, record_of}
use Rattle.mt_log.specs.LogState.{LogState}
use Rattle.mt_log.specs.Stage.{IsNaming}
use Rattle.mt_log.proofs.Appended.{chosen_fit, payloads_chosen}
use Rattle.mt_log.proofs.Walks.{log_by-holds}
use Rattle.mt_draft.specs.Drafts.{DraftState, HasMoved, IsDrafted, IsMoved, KeepsBut, drafted_bytes, other_of}
use Rattle.mt_draft.specs.Steps.{name_of, sealed, with_named, with_none}
use Rattle.mt_draft.proofs.Buts.{but_changed}
use Rattle.mt_draft.proofs.Drafted.{holds_drafted}
use Rattle.mt_draft.proofs.Kept.{either_chosen, kept_chosen, kept_log, log_no_head, naming_keeps, never_head, other_twice, same_chosen}
use Rattle.mt_draft.proofs.Named.{chosen_some, named_chosen, named_firm}

-- a log of this version, whichever an opening takes
read_drafted : (any : Bool) (qs : List (List ℕ)) → AllFit qs → log_by any ((log_magic ++ flat_map record_of qs) ++ 0 ∷ []) ≡ Ok qs
read_drafted true qs each = log_by-holds true false _ _ qs (holds_drafted qs each)
read_drafted false qs each = log_by-holds false false _ _ qs (holds_drafted qs each)

moved_chosen : (c : Files) (file : FileNo) (qs : List (List ℕ)) → AllFit qs → chosen_file c ≡ Some file → contents c file ≡ (log_magic ++ flat_map record_of qs) ++ 0 ∷ [] → IsMoved qs c
moved_chosen c file qs each chosen is = record {
  reads = λ any. payloads_chosen any c file chosen ∙ ap (log_by any) is ∙ read_drafted any qs each;
  fit = chosen_fit c file chosen;
}

-- the file of a log and the other one are One and Two
one_of : (files c : Files) (file : FileNo) → chosen_file files ≡ Some file → 0 < length c.head → (chosen_file c ≡ Some file) ⊎ (chosen_file c ≡ Some (other_of file))
one_of files c One is some = either_chosen c.head c.two some
one_of files c Two is some = ⊎_elim (λ one. inr one) (λ two. inl two) (either_chosen c.head c.two some)
one_of files c Head is some = absurd (never_head files.head files.two is)

other_kept : (files c : Files) (file : FileNo) (bytes : List ℕ) → chosen_file files ≡ Some file → c ≡ with_contents files (other_of file) bytes → contents c file ≡ contents files file
other_kept files c One bytes chosen is = ap (λ f. f.one) is
other_kept files c Two bytes chosen is = ap (λ f. f.two) is
other_kept files c Head bytes chosen is = absurd (never_head files.head files.two chosen)

other_is_log : (files : Files) (file : FileNo) → chosen_file files ≡ Some file → other_of file ≡ Head → ⊥
other_is_log files One is head = cc head
other_is_log files Two is head = cc head
other_is_log files Head is head = never_head files.head files.two is

head_kept : (files c : Files) (file : FileNo) (bytes : List ℕ) → chosen_file files ≡ Some file → c ≡ with_contents files (other_of file) bytes → c.head ≡ files.head
head_kept files c One bytes chosen is = ap (λ f. f.head) is
head_kept files c Two bytes chosen is = ap (λ f. f.head) is
head_kept files c Head bytes chosen is = absurd (never_head files.head files.two chosen)

module _ (files : Files) (log : LogState) (draft : DraftState) (qs : List (List ℕ)) (is : IsDrafted files log draft qs) where
  -- the log as it was, or the draft
  abbrev pub Ends : Files → Type 0
  Ends c = SameLog files c ⊎ IsMoved qs c

  chosen : chosen_file files ≡ Some log.file
  chosen = is.begun.log_is.is_chosen

  -- the files once the draft is whole, and once Head names it
  abbrev pub whole_files : Files
  whole_files = sealed draft files

  abbrev pub named_files : Files
  named_files = with_named (name_of draft.file) whole_files

  whole : contents whole_files draft.file ≡ (log_magic ++ flat_map record_of qs) ++ 0 ∷ []
  whole = contents-with files draft.file _ ∙ ap (λ (l : List ℕ). l ++ 0 ∷ []) is.bytes

  in_other : whole_files ≡ with_contents files (other_of log.file) (drafted_bytes files draft ++ 0 ∷ [])
  in_other = ap (λ f. with_contents files f (drafted_bytes files draft ++ 0 ∷ [])) is.begun.file

  no_head : draft.file ≡ Head → ⊥
  no_head head = other_is_log files log.file chosen (sym is.begun.file ∙ head)

  -- while the draft is written
  pub drafting_ends : (c : Files) → KeepsBut draft.file files c → Ends c
  drafting_ends c keeps = inl (kept_log files log.file chosen is.begun.firm c (subst (λ f. KeepsBut f files c) is.begun.file keeps))

  -- while Head is written
  pub naming_ends : (c : Files) → IsNaming whole_files c → Ends c
  naming_ends c naming =
      let some : 0 < length files.head = chosen_some files log.file chosen in
      let head = head_kept files whole_files log.file _ chosen in_other in
      let long : 0 < length c.head = omega (arith, some, ap (λ (l : List ℕ). length l) head, naming.torn.no_shorter) in
      let old : contents c log.file ≡ contents files log.file = naming_keeps whole_files c log.file (log_no_head files log.file chosen) naming.others ∙ other_kept files whole_files log.file _ chosen in_other in
      let new : contents c draft.file ≡ (log_magic ++ flat_map record_of qs) ++ 0 ∷ [] = naming_keeps whole_files c draft.file no_head naming.others ∙ whole in
      ⊎_elim
      (λ first. inl (same_chosen files c log.file chosen first old))
      (λ other. inr (moved_chosen c draft.file qs is.each (other ∙ ap (λ f. Some f) (sym is.begun.file)) new))
      (one_of files c log.file chosen long)

  named_is : chosen_file named_files ≡ Some draft.file
  named_is = named_chosen whole_files draft.file no_head (λ two.
      let size = ap (λ (l : List ℕ). length l) (ap (contents whole_files) (sym two) ∙ whole) in
      omega (arith, size, length-append (log_magic ++ flat_map record_of qs) (0 ∷ []), length-append log_magic (flat_map record_of qs)))

  named_whole : contents named_files draft.file ≡ (log_magic ++ flat_map record_of qs) ++ 0 ∷ []
  named_whole = naming_keeps whole_files named_files draft.file no_head refl ∙ whole

  other_is : other_of draft.file ≡ log.file
  other_is = ap other_of is.begun.file ∙ other_twice files log.file chosen

  -- while the old log's file is emptied
  emptying : (c : Files) → KeepsBut log.file named_files c → (chosen_file c ≡ Some draft.file) × (contents c draft.file ≡ contents named_files draft.file)
  emptying c keeps = kept_chosen named_files draft.file named_is (named_firm whole_files draft.file) c (subst (λ f. KeepsBut f named_files c) (sym other_is) keeps)

  emptying_moved : (c : Files) → KeepsBut log.file named_files c → IsMoved qs c
  emptying_moved c keeps = let now = emptying c keeps in moved_chosen c draft.file qs is.each now.0 (now.1 ∙ named_whole)

  pub emptying_ends : (c : Files) → KeepsBut log.file named_files c → Ends c
  emptying_ends c keeps = inr (emptying_moved c keeps)

  -- and then
  pub has_moved : HasMoved log draft qs (with_none log.file named_files)
  has_moved =
      let keeps = but_changed log.file named_files [] in
      let now = emptying (with_none log.file named_files) keeps in
      record {
        moved = emptying_moved (with_none log.file named_files) keeps;
        is_chosen = now.0;
        whole = now.1 ∙ named_whole;
        emptied = contents-with named_files log.file [];
      }
