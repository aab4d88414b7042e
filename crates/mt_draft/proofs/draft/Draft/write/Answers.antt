-- What is held goes to where the file ends.
use Rattle.std.proofs.Common.{◌≡◌, ℕ, ◌+◌, List, [], length, Some, refl, rules, sym, ap, subst, ◌∙◌, arith, option_map}
use Rattle.std.proofs.lemmas.Option.{same_Some}
use Rattle.mt_disk.specs.Files.{contents, overwritten, with_contents}
use Rattle.mt_disk.specs.CrashModel.{LeavesOnly, Torn}
use Rattle.mt_draft.specs.Drafts.{DraftState, KeepsBut}
use Rattle.mt_draft.specs.Steps.{Poured}
use Rattle.mt_draft.proofs.Buts.{but_called}
use Rattle.mt_draft.proofs.Pours.{poured_end}
use Rattle.mt_draft.proofs.draft.Draft.write.Goals as goal

pub write_at-requires : goal.write_at-requires
write_at-requires g c files is =
    let at = subst (λ (s : DraftState). s.written ≡ length (contents files s.file)) (sym c.self.view_is) (c.requires.at files is) in
    omega (arith, at)

pub returns-clause-poured : goal.returns-clause-poured
returns-clause-poured g c files is now now_is =
    let d = g.D.Disk in
    let was = c.self.inside in
    let old : DraftState = record { file = was.file; written = was.written; held = was.held.items; limit = was.limit } in
    let new : DraftState = record { file = was.file; written = was.written + c.len.result; held = c.clear.new.self.items; limit = was.limit } in
    let at = subst (λ (s : DraftState). s.written ≡ length (contents files s.file)) (sym c.self.view_is) (c.requires.at files is) in
    let wrote : d.seen c.write_at.new.self ≡ Some (with_contents files was.file (overwritten (contents files was.file) was.written c.deref.result.now)) =
    c.in_ok-write_at.ensures.written ∙ ap (option_map (λ f. with_contents f was.file (overwritten (contents f was.file) was.written c.deref.result.now))) is in
    let after : with_contents files was.file (overwritten (contents files was.file) was.written was.held.items) ≡ now =
    ap (λ (l : List ℕ). with_contents files was.file (overwritten (contents files was.file) was.written l)) (sym c.deref.ensures.value) ∙ same_Some _ _ (sym wrote ∙ now_is) in
    let grown : was.written + c.len.result ≡ was.written + length was.held.items = omega (arith, c.len.ensures, was.held.ok.0) in
    let cleared : c.clear.new.self.items ≡ [] = search rules in
    subst (λ (s : DraftState). Poured files now s new) c.self.view_is
    (subst (λ f. Poured files f old new) after (poured_end files old new at refl grown cleared))

pub returns-in_err-write_at-clause-images : goal.returns-in_err-write_at-clause-images
returns-in_err-write_at-clause-images g c files here =
    let d = g.D.Disk in
    let was = c.self.inside in
    let file_is = ap (λ (s : DraftState). s.file) c.self.view_is in
    subst (λ f. LeavesOnly d.moment d.left_since c.args.disk.now c.write_at.new.self (KeepsBut f files)) file_is
    (but_called d.moment d.left_since d.may_leave _ _ was.file (Torn was.written (length c.deref.result.now)) files (g.met.D.Disk.only_now c.args.disk.now)
    (λ f left. subst (λ x. KeepsBut x files f) (sym file_is) (here f left)) c.write_at.ensures.crash c.write_at.ensures.time)

pub returns-clause-images : goal.returns-clause-images
returns-clause-images g c files here =
    let d = g.D.Disk in
    let was = c.self.inside in
    let file_is = ap (λ (s : DraftState). s.file) c.self.view_is in
    subst (λ f. LeavesOnly d.moment d.left_since c.args.disk.now c.write_at.new.self (KeepsBut f files)) file_is
    (but_called d.moment d.left_since d.may_leave _ _ was.file (Torn was.written (length c.deref.result.now)) files (g.met.D.Disk.only_now c.args.disk.now)
    (λ f left. subst (λ x. KeepsBut x files f) (sym file_is) (here f left)) c.write_at.ensures.crash c.write_at.ensures.time)
