-- One list behind the other.
use Rattle.std.proofs.Common.{false}
use Rattle.mt_connection.specs.Transcript.{setting}
use Rattle.mt_server.specs.Events.{DrainsBehind}
use Rattle.mt_server.proofs.Following.{events_more, passed_more, rounds_more, whole_firsts, whole_lasts, whole_over}
use Rattle.mt_server.proofs.laws.events_go_on.Goals as goal

pub returns-clause-events : goal.returns-clause-events
returns-clause-events g c disk rule children knows login slots limit base old mid new xs ys none h k = events_more _ (DrainsBehind (setting false knows (g.C.Clock.gives rule) (g.P.Spawner.gives children) login slots limit base)) old xs mid ys new none h k

pub returns-clause-rounds : goal.returns-clause-rounds
returns-clause-rounds g c disk rule children knows login slots limit base old mid new xs ys none h k = rounds_more _ (DrainsBehind (setting false knows (g.C.Clock.gives rule) (g.P.Spawner.gives children) login slots limit base)) old xs mid ys new none h k

pub returns-clause-whole : goal.returns-clause-whole
returns-clause-whole g c es whole = (whole_firsts es whole, whole_lasts es whole, whole_over es whole)

pub returns-clause-links : goal.returns-clause-links
returns-clause-links g c old mid new xs ys h k = passed_more old xs mid ys new h k
