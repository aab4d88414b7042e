use Rattle.std.proofs.Common.{◌≡◌, ◌-◌, ◌+◌, ◌++◌, length, drop, take, ap, ◌∙◌, arith, length-append}
use Rattle.std.proofs.lemmas.List.{take_at}
use Rattle.mt_path.specs.Keys.{key_bytes, parts_of}
use Rattle.mt_path.proofs.Keys.{key-cut}
use Rattle.mt_path.proofs.key.before.Goals as goal

cut : (c : goal.After-after) → c.args.key.now ≡ key_bytes (take c.args.count (parts_of c.args.key.now)) ++ key_bytes (drop c.args.count (parts_of c.args.key.now))
cut c = c.requires.whole ∙ key-cut c.args.count (parts_of c.args.key.now)

long : (c : goal.After-after) → length c.args.key.now ≡ length (key_bytes (take c.args.count (parts_of c.args.key.now))) + length c.after.result.now
long c = omega (arith, ap length (cut c), ap length c.after.ensures.value, length-append (key_bytes (take c.args.count (parts_of c.args.key.now))) (key_bytes (drop c.args.count (parts_of c.args.key.now))))

pub slice_bounds-result-count : goal.slice_bounds-result-count
slice_bounds-result-count c = omega (arith, long c)

pub returns : goal.returns
returns c =
    ap (take (length c.args.key.now - length c.after.result.now)) (cut c)
    ∙ take_at (key_bytes (take c.args.count (parts_of c.args.key.now))) (key_bytes (drop c.args.count (parts_of c.args.key.now))) (length c.args.key.now - length c.after.result.now) (omega (arith, long c))
