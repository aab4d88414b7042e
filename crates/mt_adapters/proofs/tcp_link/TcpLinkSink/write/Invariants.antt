-- No fault was counted so far.
use Rattle.std.proofs.Common.{◌≡◌}
use Rattle.mt_adapters.proofs.tcp_link.TcpLinkSink.write.Given as goal

abbrev pub invariant-loop : goal.invariant-loop
invariant-loop l = l.self ≡ l.fn.self
