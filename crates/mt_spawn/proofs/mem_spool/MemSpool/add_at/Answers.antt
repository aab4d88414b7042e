use Rattle.std.proofs.Common.{◌≡◌, ◌++◌, List, ℕ, cond, get_or, ap, subst, ◌∙◌}
use Rattle.mt_spawn.specs.Spools.{SpoolFile}
use Rattle.mt_spawn.specs.SpoolMemory.{file_of}
use Rattle.mt_spawn.specs.declared.mem_spool.MemFile.{MemFile}
use Rattle.mt_spawn.proofs.SpoolBytes.{after_adding, first_grows, same_at, same_set}
use Rattle.mt_spawn.proofs.mem_spool.MemSpool.add_at.Goals as goal

abbrev seen : ℕ → List ℕ → SpoolFile
seen n bytes = record { number = n; bytes = bytes }

pub returns-clause-added : goal.returns-clause-added
returns-clause-added c = λ yes.
    let old = c.index_mut-file.result.now in
    let files = c.args.self.now.files.items in
    let bytes : c.extend_from_slice.new.self.items ≡ old.bytes.items ++ c.args.piece.now =
    subst (λ b. cond b (c.extend_from_slice.new.self.items ≡ old.bytes.items ++ c.args.piece.now) (c.extend_from_slice.new.self.items ≡ old.bytes.items)) yes
    (after_adding _ _ old.bytes.items c.args.piece.now _ c.extend_from_slice.ensures.items c.is_ok.ensures.value) in
    let here : (d : MemFile) → old ≡ get_or files c.args.place d = λ d. c.index_mut-file.ensures.value ∙ same_at files c.args.place old d c.requires.there in
    first_grows c.args.number c.args.piece.now files c.args.place _ c.requires
    (λ d. ap (seen old.number) bytes ∙ ap (λ (f : MemFile). seen f.number (f.bytes.items ++ c.args.piece.now)) (here d))

pub returns-clause-not : goal.returns-clause-not
returns-clause-not c = λ no.
    let old = c.index_mut-file.result.now in
    let files = c.args.self.now.files.items in
    let bytes : c.extend_from_slice.new.self.items ≡ old.bytes.items =
    subst (λ b. cond b (c.extend_from_slice.new.self.items ≡ old.bytes.items ++ c.args.piece.now) (c.extend_from_slice.new.self.items ≡ old.bytes.items)) no
    (after_adding _ _ old.bytes.items c.args.piece.now _ c.extend_from_slice.ensures.items c.is_ok.ensures.value) in
    same_set files c.args.place _ (λ d. ap (seen old.number) bytes ∙ ap file_of (c.index_mut-file.ensures.value ∙ same_at files c.args.place old d c.requires.there))
