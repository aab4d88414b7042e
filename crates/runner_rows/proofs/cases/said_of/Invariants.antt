-- What was said so far, with the assets that are left in the bytes that are left.
use Rattle.std.proofs.Common.{◌≡◌, drop}
use Rattle.mt_spawn.specs.Orders.{cut_assets, input_from, run_from}
use Rattle.runner_rows.specs.Cases.{said_assets, said_of}
use Rattle.runner_rows.proofs.cases.said_of.Given as goal

abbrev pub invariant-loop-asset : goal.invariant-loop-asset
invariant-loop-asset l = record {
  rest : said_assets l.said.items (cut_assets (drop l.asset-index l.asset-items) l.rest) ≡ said_of (run_from l.fn.order l.fn.bytes) (input_from l.fn.order l.fn.bytes);
}
