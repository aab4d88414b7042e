use Rattle.std.proofs.Common.{◌≡◌, length, sym, ap, ◌∙◌, arith}
use Rattle.mt_opening.specs.Current.{EngineState}
use Rattle.mt_engine.proofs.Accepts.{size_is}
use Rattle.mt_engine.proofs.engine.Engine.has_room.Goals as goal

pub returns : goal.returns
returns c =
    let count : c.args.self.now.state.count ≡ c.count.result = ap (λ (e : EngineState). e.state.count) (sym c.self.view_is) ∙ sym c.count.ensures.count in
    let limit : c.self.inside.log.limit ≡ c.args.self.now.log.limit = ap (λ (e : EngineState). e.log.limit) c.self.view_is in
    let gate : c.self.inside.log.gate ≡ c.args.self.now.log.gate = ap (λ (e : EngineState). e.log.gate) c.self.view_is in
    let size = size_is c.args.command.now in
    let len = ap length c.in_ok-payload.ensures in (
      λ yes. record {
        few = omega (arith, count, c.count.ensures.most, c.if-count-eq-MOST_COMMANDS.false);
        fits = omega (arith, c.fits.ensures.0 yes, c.len.ensures, c.limit.ensures, c.len-2.ensures, limit, gate, size, len);
      },
      λ room. c.fits.ensures.1 (omega (arith, room.fits, c.len.ensures, c.limit.ensures, c.len-2.ensures, limit, gate, size, len)),
    )
