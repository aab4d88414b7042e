use Rattle.std.proofs.lemmas.Result.{err_from_is_err_and}
use Rattle.mt_path.specs.Keys.{parts_of}
use Rattle.mt_codec.specs.Reading.{times}
use Rattle.mt_codec.specs.Readers.{component_at}
use Rattle.mt_codec.proofs.Loops.{goes_on, is_done}
use Rattle.mt_codec.proofs.Paths.{key_ends, pushed}
use Rattle.mt_codec.proofs.pieces.key_of.Goals as goal

pub returns-in_err-component-clause-parts : goal.returns-in_err-component-clause-parts
returns-in_err-component-clause-parts c =
    let p = err_from_is_err_and c.from_residual-in_err-component.result c.from_residual-in_err-component.ensures.1 in
    rw (p.1, p.2)
    (key_ends c.in_err-component.field-0.0 c.component.new.cursor c.component.new.cursor c.loop.cursor (parts_of c.loop.key.items) c.args.n c.loop.counter (times component_at c.args.n c.args.cursor.now) c.loop-test.true c.in_err-component.ensures c.loop.invariant.read)

pub loop-preserved : goal.loop-preserved
loop-preserved c =
    let p = pushed c.loop.key.items c.in_ok-component.field-0.now c.put_part.new.key.items c.loop.cursor c.component.new.cursor c.loop.invariant.key c.in_ok-component.ensures c.in_ok-put_part.ensures in
    record {
      read = rw p.parts (goes_on component_at (parts_of c.loop.key.items) c.args.n c.loop.counter c.loop.cursor c.in_ok-component.field-0.now c.component.new.cursor (times component_at c.args.n c.args.cursor.now) c.loop-test.true c.in_ok-component.ensures c.loop.invariant.read);
      key = p.whole;
    }

pub returns-clause-parts : goal.returns-clause-parts
returns-clause-parts c = is_done component_at (parts_of c.loop.key.items) c.args.n c.loop.counter c.loop.cursor (times component_at c.args.n c.args.cursor.now) c.loop-test.false c.loop.invariant.read
