use Rattle.std.proofs.Common.{◌-◌, map, length, take, subst, sym}
use Rattle.mt_path.specs.Keys.{shown_byte}
use Rattle.mt_jobtext.specs.Windows.{Puts, Seen}
use Rattle.mt_jobtext.proofs.Windows.{puts_shown}
use Rattle.mt_jobtext.proofs.window.Window.put_shown.Goals as goal

pub returns : goal.returns
returns c =
    let i = c.self.inside in
    let w : Seen = record { skip = i.skip; got = take i.filled i.bytes.items; room = i.limit - i.filled; size = length i.bytes.items } in
    let P : Seen → Type 0 = λ old. Puts (map shown_byte c.args.key.now) old c.write_shown.new.self in
    let Q : Seen → Type 0 = λ new. Puts (map shown_byte c.args.key.now) w new in
    subst P c.self.view_is
    (subst Q (sym c.write_shown.ensures) (puts_shown c.args.key.now w c.min-passed.result c.min-count.result c.min-passed.ensures c.min-count.ensures))
