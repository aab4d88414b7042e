-- The cause of each end of a run.
use Rattle.std.specs.Prelude.{ℕ, ⊤, ◌⊎◌}
use Rattle.mt_base.specs.Counts.{Rose}
use Rattle.mt_script.specs.declared.end.ClientEnd.{ClientEnd}
use Rattle.mt_script.specs.declared.end.ClientEnd.TheVariants as end
use Rattle.mt_client.specs.Requests.{Sides}

-- a fault is told only where a count rose: the source's, of which these are the numbers before and after, the sink's, or one of the link's
abbrev pub HasCause : ClientEnd → ℕ → ℕ → Sides → Sides → Type 0
HasCause end.Done faults faults' a b = ⊤
HasCause end.Usage faults faults' a b = ⊤
HasCause end.Refused faults faults' a b = ⊤
HasCause end.SourceFault faults faults' a b = Rose faults faults'
HasCause end.SinkFault faults faults' a b = Rose a.spills b.spills
HasCause end.LinkFault faults faults' a b = Rose a.reads b.reads ⊎ Rose a.writes b.writes
HasCause end.BadReply faults faults' a b = ⊤
HasCause end.TooManyRequests faults faults' a b = ⊤
HasCause end.InputTooLarge faults faults' a b = ⊤
HasCause end.Memory faults faults' a b = ⊤
