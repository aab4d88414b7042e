-- The entries and the bytes have one more each.
use Rattle.std.proofs.Common.{◌≡◌, ◌++◌, ◌∷◌, [], ap, ◌∙◌, rules}
use Rattle.mt_disk.specs.Entries.{call_of, calls_onto}
use Rattle.mt_disk.proofs.Entries.{calls_onto-push}
use Rattle.mt_disk.proofs.record.Record.add.Goals as goal

pub returns-clause-ok : goal.returns-clause-ok
returns-clause-ok c =
    let items : c.push.new.self.items ≡ c.self.inside.entries.items ++ c.args.entry ∷ [] = search rules in
    let bytes : c.extend_from_slice.new.self.items ≡ c.self.inside.written.items ++ c.args.bytes.now = search rules in
    ap (λ es. calls_onto [] es c.extend_from_slice.new.self.items) items
    ∙ ap (λ bs. calls_onto [] (c.self.inside.entries.items ++ c.args.entry ∷ []) bs) bytes
    ∙ calls_onto-push [] c.self.inside.entries.items c.args.entry c.self.inside.written.items c.args.bytes.now c.self.invariant c.requires
    ∙ ap (λ past. call_of c.args.entry c.args.bytes.now ∷ past) c.self.view_is
