-- What the steps of reading a body do, by what was left of the source before and after.
use Rattle.std.specs.Prelude.{◌≡◌, ℕ, ◌+◌, ◌<◌, ◌≤◌, ◌⊎◌, List, [], ◌++◌, length, take, Option, Some, None, IfSome, option_map, Result, Ok, Err}
use Rattle.mt_base.specs.Counts.{Rose, NeverFell}
use Rattle.mt_edge.specs.declared.source.ReadStep.{ReadStep}
use Rattle.mt_edge.specs.declared.source.ReadStep.TheVariants as read
use Rattle.mt_edge.specs.Stream.{LeftAfter}
use Rattle.mt_http.specs.Body.{BodyState, Told, told_from, data_left}
use Rattle.mt_http.specs.declared.message.Ending.{Ending}
use Rattle.mt_http.specs.declared.message.Ending.TheVariants.{Truncated}
use Rattle.mt_http.specs.declared.message.Ending.TheVariants as ending
use Rattle.mt_http.specs.declared.message.MessageEnd.{MessageEnd}
use Rattle.mt_http.specs.declared.message.MessageEnd.TheVariants as message_end
use Rattle.mt_http.specs.declared.stage.Stage.{Stage}
use Rattle.mt_http.specs.declared.stage.Stage.TheVariants.{Over}
use Rattle.mt_http.specs.declared.stream.Reached.{Reached}
use Rattle.mt_http.specs.declared.stream.Reached.TheVariants as reached

-- the bytes of the body that are left
abbrev pub body_left : BodyState → Option (List ℕ) → Option (List ℕ)
body_left s left = option_map (λ bytes. (told_from s bytes).body) left

-- how the body will end, and what follows it
abbrev pub after_body : BodyState → Option (List ℕ) → Option (Ending × List ℕ)
after_body s left = option_map (λ bytes. ((told_from s bytes).ending, (told_from s bytes).rest)) left

-- with more bytes of the body before
abbrev pub with_bytes : List ℕ → Told → Told
with_bytes more told = record told { body = more ++ told.body }

-- Whatever follows, the bytes used of the source lead from one state to the other, and hold these bytes of the body.
pub record LeadsTo (s : BodyState) (used more : List ℕ) (s' : BodyState) : Type 0 where
  pub leads : (rest : List ℕ) → told_from s (used ++ rest) ≡ with_bytes more (told_from s' rest)

-- the source ended, before the body did
pub record EndsEarly (s : BodyState) (used : List ℕ) (ending : Ending) (left : Option (List ℕ)) : Type 0 where
  pub ending_is : ending ≡ Truncated
  pub none : IfSome left (λ bytes. bytes ≡ [])
  pub told : told_from s used ≡ record { body = []; ending = Truncated; rest = [] }

-- the body is over behind the bytes used, or the source is
pub record EndsBy (s : BodyState) (left : Option (List ℕ)) (s' : BodyState) (left' : Option (List ℕ)) : Type 0 where
  pub used : List ℕ
  pub gone : LeftAfter left used left'
  pub ending : Ending
  pub is_over : s'.stage ≡ Over ending
  pub ends : LeadsTo s used [] s' ⊎ EndsEarly s used ending left'

-- the bytes used hold these bytes of the body
pub record Goes (s : BodyState) (left : Option (List ℕ)) (more : List ℕ) (s' : BodyState) (left' : Option (List ℕ)) : Type 0 where
  pub used : List ℕ
  pub gone : LeftAfter left used left'
  pub leads : LeadsTo s used more s'

-- up to the next byte of the body
abbrev pub Reaches : BodyState → Option (List ℕ) → ℕ → Reached → BodyState → Option (List ℕ) → ℕ → Type 0
Reaches s left faults (reached.Data n) s' left' faults' = Goes s left [] s' left' × (data_left s'.stage ≡ n) × (0 < n) × NeverFell faults faults'
Reaches s left faults reached.Over s' left' faults' = EndsBy s left s' left' × NeverFell faults faults'
Reaches s left faults reached.Failed s' left' faults' = Goes s left [] s' left' × Rose faults faults'

-- one read of a body
abbrev pub Streams : BodyState → Option (List ℕ) → ℕ → List ℕ → ReadStep → BodyState → Option (List ℕ) → ℕ → Type 0
Streams s left faults into (read.Took n) s' left' faults' = (0 < n) × (n ≤ length into) × Goes s left (take n into) s' left' × NeverFell faults faults'
Streams s left faults into read.End s' left' faults' = EndsBy s left s' left' × NeverFell faults faults'
Streams s left faults into read.Failed s' left' faults' = Goes s left [] s' left' × Rose faults faults'

-- The rest of a body was read, whatever it was. Where it ended so, this is how it was to end, and what is left is what follows
-- it; where the source failed, both are as before.
abbrev pub Finished : BodyState → Option (List ℕ) → Option Ending → BodyState → Option (List ℕ) → Type 0
Finished s left (Some ending) s' left' = (s'.stage ≡ Over ending) × (after_body s left ≡ option_map (λ rest. (ending, rest)) left')
Finished s left None s' left' = after_body s' left' ≡ after_body s left

-- more of a body behind its first bytes
abbrev pub ReadsBehind : ℕ → BodyState → Option (List ℕ) → ℕ → List ℕ → ReadStep → BodyState → Option (List ℕ) → ℕ → List ℕ → Type 0
ReadsBehind done s left faults old (read.Took n) s' left' faults' new = (0 < n) × (done + n ≤ length new) × ((more : List ℕ) × Goes s left more s' left' × (take (done + n) new ≡ take done old ++ more)) × NeverFell faults faults'
ReadsBehind done s left faults old read.End s' left' faults' new = EndsBy s left s' left' × (take done new ≡ take done old) × NeverFell faults faults'
ReadsBehind done s left faults old read.Failed s' left' faults' new = Goes s left [] s' left' × Rose faults faults'

-- the body that came, by how it ended
abbrev pub Finishes : List ℕ → Stage → Result (List ℕ) MessageEnd → Type 0
Finishes body (Over ending.Whole) r = r ≡ Ok body
Finishes body (Over ending.Truncated) r = r ≡ Err message_end.Truncated
Finishes body (Over ending.Bad) r = r ≡ Err message_end.Bad
Finishes body (Over ending.TooLarge) r = r ≡ Err message_end.TooLarge
Finishes body stage r = r ≡ Err message_end.Truncated
