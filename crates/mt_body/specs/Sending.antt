-- What sending a part of a body does to a sink.
use Rattle.std.specs.Prelude.{ℕ, List, Option}
use Rattle.mt_base.specs.Counts.{NeverFell, Rose}
use Rattle.mt_edge.specs.Stream.{GotMore, WritesFront}
use Rattle.mt_body.specs.declared.send.Sent.{Sent}
use Rattle.mt_body.specs.declared.send.Sent.TheVariants as sent

-- all of these bytes were written, or a front of them before a fault
abbrev pub Sends : Sent → List ℕ → Option (List ℕ) → Option (List ℕ) → ℕ → ℕ → Type 0
Sends sent.Whole bytes got got' faults faults' = GotMore got bytes got' × NeverFell faults faults'
Sends sent.SinkFault bytes got got' faults faults' = WritesFront got bytes got' × Rose faults faults'
Sends sent.Disk bytes got got' faults faults' = WritesFront got bytes got' × NeverFell faults faults'
