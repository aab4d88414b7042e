-- The draft is sealed, named, and the old file emptied: what a crash leaves is the log or the draft.
use Rattle.std.proofs.Common.{◌≡◌, ℕ, Some, sym, ap, subst, ◌∙◌, arith, option_map}
use Rattle.mt_disk.specs.declared.disk.FileNo.{FileNo}
use Rattle.mt_disk.specs.CrashModel.{LeavesOnly}
use Rattle.mt_disk.proofs.Moments.{joins, weakens}
use Rattle.std.proofs.lemmas.Option.{same_Some}
use Rattle.mt_log.specs.Stage.{IsNaming}
use Rattle.mt_draft.specs.Drafts.{HasMoved, KeepsBut}
use Rattle.mt_draft.specs.Steps.{name_of, sealed, with_named, with_none}
use Rattle.mt_draft.proofs.Buts.{but_self}
use Rattle.mt_draft.proofs.Drafted.{next_log_size}
use Rattle.mt_draft.proofs.Moving.{Ends, drafting_ends, emptying_ends, has_moved, named_files, naming_ends, whole_files}
use Rattle.mt_draft.proofs.Sealing.{mapped_tells}
use Rattle.mt_draft.proofs.draft.Draft.finish.Goals as goal

pub seal_or_empty-requires : goal.seal_or_empty-requires
seal_or_empty-requires g c = record {
  at = λ files is. (c.requires.drafting files is).0.1.begun.size;
  images = λ files is f left. let at = c.requires.drafting files is in subst (λ x. KeepsBut x files f) (sym at.0.1.begun.file) (at.1 f left);
}

pub returns-in_err-seal_or_empty-clause-any_moment : goal.returns-in_err-seal_or_empty-clause-any_moment
returns-in_err-seal_or_empty-clause-any_moment g c files is qs drafted =
    let d = g.D.Disk in
    let log = c.args.log in
    let draft = c.args.self in
    weakens d.moment d.left_since _ _ (KeepsBut draft.file files) (Ends files log draft qs drafted) (drafting_ends files log draft qs drafted) (c.seal_or_empty.ensures.any_moment files is)

pub empty-requires : goal.empty-requires
empty-requires g c = record {
  images = λ files is f left. subst (λ x. KeepsBut c.file-old.result files x) (sym (c.in_ok-name.ensures.rest files is f left)) (but_self c.file-old.result files);
}

pub returns-in_err-name-clause-any_moment : goal.returns-in_err-name-clause-any_moment
returns-in_err-name-clause-any_moment g c files is qs drafted =
    let d = g.D.Disk in
    let log = c.args.log in
    let draft = c.args.self in
    let whole = whole_files files log draft qs drafted in
    let seen1 : d.seen c.seal_or_empty.new.disk ≡ Some whole = c.in_ok-seal_or_empty.ensures.sealed ∙ ap (option_map (sealed draft)) is in
    joins d.moment d.left_since _ _ _ (KeepsBut draft.file files) (IsNaming whole) (Ends files log draft qs drafted) (c.seal_or_empty.ensures.any_moment files is) (c.name.ensures.any_moment whole seen1)
    (drafting_ends files log draft qs drafted) (naming_ends files log draft qs drafted)

pub returns-in_err-empty-clause-any_moment : goal.returns-in_err-empty-clause-any_moment
returns-in_err-empty-clause-any_moment g c files is qs drafted =
    let d = g.D.Disk in
    let log = c.args.log in
    let draft = c.args.self in
    let E = Ends files log draft qs drafted in
    let whole = whole_files files log draft qs drafted in
    let named = named_files files log draft qs drafted in
    let seen1 : d.seen c.seal_or_empty.new.disk ≡ Some whole = c.in_ok-seal_or_empty.ensures.sealed ∙ ap (option_map (sealed draft)) is in
    let byte = c.name_of-byte.ensures ∙ ap name_of c.file.ensures in
    let seen2 : d.seen c.name.new.disk ≡ Some named = c.in_ok-name.ensures.named ∙ ap (option_map (with_named c.name_of-byte.result)) seen1 ∙ ap (λ (b : ℕ). Some (with_named b whole)) byte in
    let emptying = subst (λ (f : FileNo). LeavesOnly d.moment d.left_since c.name.new.disk c.empty.new.disk (KeepsBut f named)) c.file-old.ensures (c.empty.ensures.any_moment named seen2) in
    joins d.moment d.left_since _ _ _ E (KeepsBut log.file named) E
    (joins d.moment d.left_since _ _ _ (KeepsBut draft.file files) (IsNaming whole) E (c.seal_or_empty.ensures.any_moment files is) (c.name.ensures.any_moment whole seen1) (drafting_ends files log draft qs drafted) (naming_ends files log draft qs drafted))
    emptying (λ x e. e) (emptying_ends files log draft qs drafted)

pub returns-clause-any_moment : goal.returns-clause-any_moment
returns-clause-any_moment g c files is qs drafted =
    let d = g.D.Disk in
    let log = c.args.log in
    let draft = c.args.self in
    let E = Ends files log draft qs drafted in
    let whole = whole_files files log draft qs drafted in
    let named = named_files files log draft qs drafted in
    let seen1 : d.seen c.seal_or_empty.new.disk ≡ Some whole = c.in_ok-seal_or_empty.ensures.sealed ∙ ap (option_map (sealed draft)) is in
    let byte = c.name_of-byte.ensures ∙ ap name_of c.file.ensures in
    let seen2 : d.seen c.name.new.disk ≡ Some named = c.in_ok-name.ensures.named ∙ ap (option_map (with_named c.name_of-byte.result)) seen1 ∙ ap (λ (b : ℕ). Some (with_named b whole)) byte in
    let emptying = subst (λ (f : FileNo). LeavesOnly d.moment d.left_since c.name.new.disk c.empty.new.disk (KeepsBut f named)) c.file-old.ensures (c.empty.ensures.any_moment named seen2) in
    joins d.moment d.left_since _ _ _ E (KeepsBut log.file named) E
    (joins d.moment d.left_since _ _ _ (KeepsBut draft.file files) (IsNaming whole) E (c.seal_or_empty.ensures.any_moment files is) (c.name.ensures.any_moment whole seen1) (drafting_ends files log draft qs drafted) (naming_ends files log draft qs drafted))
    emptying (λ x e. e) (emptying_ends files log draft qs drafted)

pub returns-clause-moved : goal.returns-clause-moved
returns-clause-moved g c files is qs drafted now now_is =
    let d = g.D.Disk in
    let log = c.args.log in
    let draft = c.args.self in
    let whole = whole_files files log draft qs drafted in
    let named = named_files files log draft qs drafted in
    let seen1 : d.seen c.seal_or_empty.new.disk ≡ Some whole = c.in_ok-seal_or_empty.ensures.sealed ∙ ap (option_map (sealed draft)) is in
    let byte = c.name_of-byte.ensures ∙ ap name_of c.file.ensures in
    let seen2 : d.seen c.name.new.disk ≡ Some named = c.in_ok-name.ensures.named ∙ ap (option_map (with_named c.name_of-byte.result)) seen1 ∙ ap (λ (b : ℕ). Some (with_named b whole)) byte in
    let seen3 : d.seen c.empty.new.disk ≡ Some (with_none log.file named) = c.in_ok-empty.ensures.emptied ∙ ap (option_map (with_none c.file-old.result)) seen2 ∙ ap (λ f. Some (with_none f named)) c.file-old.ensures in
    subst (λ x. HasMoved log draft qs x) (same_Some _ _ (sym seen3 ∙ now_is)) (has_moved files log draft qs drafted)

pub returns-clause-told : goal.returns-clause-told
returns-clause-told g c =
    let d = g.D.Disk in
    mapped_tells (with_none c.file-old.result) _ _ c.in_ok-empty.ensures.emptied ∙ mapped_tells (with_named c.name_of-byte.result) _ _ c.in_ok-name.ensures.named ∙ mapped_tells (sealed c.args.self) _ _ c.in_ok-seal_or_empty.ensures.sealed

pub returns-clause-log_size : goal.returns-clause-log_size
returns-clause-log_size g c files is qs drafted = omega (arith, c.len-size.ensures, next_log_size files c.args.log c.args.self qs drafted)
