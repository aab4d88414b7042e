-- How the outcome of a task is judged by what is told of it, and what may be read of it later.
use Rattle.std.specs.Prelude.{◌≡◌, ℕ, List, Option, Some, None, IfSome}
use Rattle.std.specs.List.{AllByRecursion, slice_get}
use Rattle.mt_types.specs.Values.{fate_with}
use Rattle.mt_types.specs.WellMade.{IsWellMadeFate}
use Rattle.mt_types.specs.declared.task.Fate.{Fate}
use Rattle.mt_types.specs.declared.task.Raw.{Raw}
use Rattle.mt_model.specs.Honest.{Bytes}
use Rattle.mt_model.specs.Keeping.{IsSaidFate}
use Rattle.mt_records.specs.Fate.{fate, files_of}
use Rattle.mt_records.specs.Laws.{HasLength, IsOfRange, IsOver}
use Rattle.mt_records.specs.Records.{AreBytes}
use Rattle.mt_records.specs.Seen.{AreWindows, HasSeen, IsWindow, Judgement, after_file, bytes_in, sizes_in}
use Rattle.mt_records.specs.Windows.{AreSeen, IsSeen, Window}
use Rattle.mt_records.specs.declared.range.Range.{Range}
use Rattle.mt_spawn.specs.Orders.{told_of}
use Rattle.mt_spawn.specs.declared.task.FileSize.{FileSize}
use Rattle.mt_spawn.specs.declared.task.Left.{Left}

-- A fate over ranges is that of the outcome that is told. Where none is, it is with any bytes of these lengths the fate of an outcome of
-- which this is told.
abbrev pub IsFateOf : Bytes → Left → Option Raw → Fate Range → Type 0
IsFateOf login left (Some raw) f = fate_with (bytes_in raw.made) f ≡ fate login raw
IsFateOf login left None f = (g : Fate Bytes) → IsOver HasLength f g → (raw : Raw) × (told_of raw ≡ left) × (g ≡ fate login raw)

-- the fate of what is held, whose parts are what they are to be, over bytes that its ranges may have
pub record IsJudged (login : Bytes) (left : Left) (told : Option Raw) (f : Fate Range) : Type 0 where
  pub came : IsFateOf login left told f
  pub made : IsWellMadeFate f
  pub said : IsSaidFate f
  pub bytes : Fate Bytes
  pub over : IsOver (IsOfRange told) f bytes

-- a file more was looked at: its window is one of its size, and shows the file, where that is told
pub record LooksAt (told : Option Raw) (size : FileSize) (old new : Judgement) : Type 0 where
  pub window : Window
  pub after : new ≡ after_file old window
  pub fits : IsWindow size window
  pub front : AreBytes window.front
  pub shows : IfSome told (λ raw. IfSome (slice_get (files_of raw.made) old.count) (λ f. IsSeen window f.bytes))

-- what a judging has looked at of what is held: windows of the first files, which show them, where that is told
pub record HasLooked (login : Bytes) (left : Left) (told : Option Raw) (j : Judgement) : Type 0 where
  pub windows : List Window
  pub has : HasSeen j windows
  pub are : AreWindows (sizes_in left.made) windows
  pub fronts : AllByRecursion (λ w. AreBytes w.front) windows
  pub show : IfSome told (λ raw. AreSeen windows (files_of raw.made))
  pub left_is : j.left ≡ left
  pub login_is : j.login ≡ login
