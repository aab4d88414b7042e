-- The commands of a history are well made, and allowed where they stand.
use Rattle.std.proofs.Common.{◌≤◌, ℕ, inl, inr, List, [], ◌∷◌, ◌++◌, map, length, sym, subst}
use Rattle.std.proofs.lemmas.List.{length-map}
use Rattle.std.specs.List.{AllByRecursion}
use Rattle.mt_codec.proofs.WellMade.{well_made}
use Rattle.mt_body.specs.Stored.{bytes_of}
use Rattle.mt_model.specs.CommandStep.{replay}
use Rattle.mt_model.specs.Lawful.{Lawful}
use Rattle.mt_model.specs.Laws.{TakenFrom}
use Rattle.mt_model.specs.State.{State}
use Rattle.mt_model.proofs.LawfulHistories.{lawful_taken, taken_on}
use Rattle.mt_model.proofs.LawfulSteps.{Lawful-first_state}
use Rattle.mt_types.specs.Values.{command_with, record_with}
use Rattle.mt_types.specs.WellMade.{IsWellMade, IsWellMadeFate, IsWellMadeRecord}
use Rattle.mt_types.specs.Values.{fate_with}
use Rattle.mt_types.specs.declared.command.Command.{Command}
use Rattle.mt_types.specs.declared.command.Command.TheVariants.{Put, MakeDirectory, Link, Delete, NewJob, AddInputs, EndInput, Commit, Finish, Cancel, Close, NewUpload, PutPart, CommitUpload, AbortUpload}
use Rattle.mt_types.specs.declared.limits.TheConstants.{MOST_RECORDS}
use Rattle.mt_types.specs.declared.task.Fate.{Fate}
use Rattle.mt_types.specs.declared.task.Fate.TheVariants.{Good, Bad}
use Rattle.mt_types.specs.declared.task.TaskRecord.{TaskRecord}
use Rattle.mt_types.specs.declared.task.TaskRecord.TheVariants.{Emit, Keep, Ref}
use Rattle.mt_opening.specs.History.{Adds, Bytes, History, IsHistoryOf, Leads}

-- a command over other bodies is as well made
module _ {A B : Type 0} (f : A → B) where
  record_made : (r : TaskRecord A) → IsWellMadeRecord r → IsWellMadeRecord (record_with f r)
  record_made (Emit place reducer body) is = is
  record_made (Keep place body) is = is
  record_made (Ref name) is = is

  records_made : (rs : List (TaskRecord A)) → AllByRecursion IsWellMadeRecord rs → AllByRecursion IsWellMadeRecord (map (record_with f) rs)
  records_made [] is = tt
  records_made (r ∷ rs) is = (record_made r is.0, records_made rs is.1)

  fate_made : (x : Fate A) → IsWellMadeFate x → IsWellMadeFate (fate_with f x)
  fate_made (Good records) is = (subst (λ n. n ≤ MOST_RECORDS) (sym (length-map records (record_with f))) is.0, records_made records is.1)
  fate_made (Bad failure status stderr) is = tt

  made_with : (c : Command A) → IsWellMade c → IsWellMade (command_with f c)
  made_with (Put path content_type body durability metadata moment) is = is
  made_with (MakeDirectory path moment) is = is
  made_with (Link path source moment) is = is
  made_with (Delete path moment) is = is
  made_with (NewJob document moment) is = is
  made_with (AddInputs job lines moment) is = is
  made_with (EndInput job moment) is = tt
  made_with (Commit job phase place fate moment) is = fate_made fate is
  made_with (Finish job moment) is = tt
  made_with (Cancel job moment) is = tt
  made_with (Close job cancelled archive moment) is = tt
  made_with (NewUpload path content_type moment) is = is
  made_with (PutPart upload index body moment) is = is
  made_with (CommitUpload upload parts body moment) is = tt
  made_with (AbortUpload upload moment) is = tt

-- what a payload adds is taken
added_taken : (before : List (List ℕ)) (s : State Bytes) (p : List ℕ) (added : History) → Adds before s p added → TakenFrom length s added
unfolding TakenFrom
added_taken before s p added (inl x) = subst (TakenFrom length s) (sym x.1) tt
added_taken before s p added (inr x) =
    let tells = x.1 in
    subst (TakenFrom length s) (sym x.2) (tells.few, made_with (bytes_of before) x.0 (well_made x.0 tells.spelled.fits), tells.allowed, tt)

leads_taken : (base : State Bytes) (before : List (List ℕ)) (h : History) (ps : List (List ℕ)) (k : History) → TakenFrom length base h → Leads base before h ps k → TakenFrom length base k
leads_taken base before h [] k taken is = subst (TakenFrom length base) (sym is) taken
leads_taken base before h (p ∷ ps) k taken leads =
    leads_taken base (before ++ p ∷ []) (h ++ leads.0) ps k (taken_on length base h leads.0 taken (added_taken before (replay base h) p leads.0 leads.1)) leads.2

pub history_taken : (ps : List (List ℕ)) (base : State Bytes) (h : History) → IsHistoryOf ps base h → TakenFrom length base h
unfolding TakenFrom
history_taken ps base h is = leads_taken base is.front [] is.rest h tt is.leads

pub history_lawful : (ps : List (List ℕ)) (base : State Bytes) (h : History) → IsHistoryOf ps base h → Lawful (replay base h)
history_lawful ps base h is = lawful_taken length base h (subst Lawful (sym is.begins.1) (Lawful-first_state Bytes)) (history_taken ps base h is)
