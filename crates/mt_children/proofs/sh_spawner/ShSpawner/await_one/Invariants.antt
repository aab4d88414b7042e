-- The spawner is seen as it was.
use Rattle.std.proofs.Common.{◌≡◌, nat_lt}
use Rattle.std.specs.Duration.{as_nanos}
use Rattle.std.specs.Prelude.{is_some, option_map, string_bytes}
use Rattle.mt_children.proofs.sh_spawner.ShSpawner.await_one.Given as goal

abbrev pub invariant-looks : goal.invariant-looks
invariant-looks g l = record {
  work : string_bytes l.self-inside.work ≡ l.fn.self.settings.work;
  helper : string_bytes l.self-inside.helper ≡ l.fn.self.settings.helper;
  login : string_bytes l.self-inside.login ≡ l.fn.self.settings.login;
  launcher : option_map string_bytes l.self-inside.launcher ≡ l.fn.self.settings.launcher;
  patience : option_map as_nanos l.self-inside.patience ≡ l.fn.self.settings.patience;
  wakes : is_some l.self-inside.wakes ≡ l.fn.self.settings.wakes;
  live : l.self-inside.children.items.items ≡ l.fn.self.live;
  faults : l.self-inside.faults ≡ l.fn.self.faults;
  waits : l.self-inside.waits ≡ l.fn.self.waits;
  company : l.self-inside.company ≡ l.fn.self.company;
  held : l.self-inside.held ≡ l.fn.self.held;
  failed : is_some l.self-inside.failure ≡ nat_lt 0 l.self-inside.faults;
}
