-- What is read of the bodies of an engine's state.
use Rattle.std.specs.Prelude.{◌≡◌, ℕ, ◌-◌, List, take, drop, Option, Some, option_map, Result, OnOk}
use Rattle.mt_disk.specs.declared.disk.DiskFault.{DiskFault}
use Rattle.mt_body.specs.Sending.{Sends}
use Rattle.mt_body.specs.Stored.{IsStored, bytes_of}
use Rattle.mt_body.specs.declared.send.Sent.{Sent}
use Rattle.mt_model.specs.CommandStep.{replay}
use Rattle.mt_model.specs.Rows.{object_at}
use Rattle.mt_model.specs.State.{State}
use Rattle.mt_path.specs.AccountPath.{AccountPath}
use Rattle.mt_types.specs.Values.{object_with}
use Rattle.mt_types.specs.declared.body.Body.{Body}
use Rattle.mt_types.specs.declared.object.Object.{Object}
use Rattle.mt_opening.specs.Current.{EngineState}
use Rattle.mt_opening.specs.History.{Bytes, History}

-- These are the bytes of the body: wherever the state has an object of this body, the history has it with these bytes.
abbrev pub StandsFor : EngineState → State Bytes → History → Body → Bytes → Type 0
StandsFor engine base h body bytes = (path : AccountPath) (object : Object Body) → object_at engine.state.rows path ≡ Some object → object.body ≡ body
    → object_at (replay base h).rows path ≡ Some (object_with (λ b. bytes) object)

-- so many of the body's bytes from this one on were read
abbrev pub ReadsPart : Result (Unit {0}) DiskFault → List ℕ → ℕ → ℕ → EngineState → State Bytes → History → Body → Type 0
ReadsPart result into at count engine base h body = (bytes : Bytes) × StandsFor engine base h body bytes × OnOk result (into ≡ take count (drop at bytes))

-- the part of the body's bytes between these two was sent, or a front of it before a fault
abbrev pub SendsPart : Sent → Option (List ℕ) → Option (List ℕ) → ℕ → ℕ → ℕ → ℕ → EngineState → State Bytes → History → Body → Type 0
SendsPart result got got' faults faults' from to engine base h body =
    (bytes : Bytes) × StandsFor engine base h body bytes × Sends result (take (to - from) (drop from bytes)) got got' faults faults'

-- these payloads have each body of the objects of the state, and the objects with the bytes that are read there are those of the history
pub record HasObjects (ps : List (List ℕ)) (engine : EngineState) (base : State Bytes) (h : History) : Type 0 where
  pub stored : (path : AccountPath) (object : Object Body) → object_at engine.state.rows path ≡ Some object → IsStored ps object.body
  pub read : (path : AccountPath) → object_at (replay base h).rows path ≡ option_map (object_with (bytes_of ps)) (object_at engine.state.rows path)
