use Rattle.mt_client.proofs.top.manta.Goals as goal

pub returns : goal.returns
returns g c =
    let r = c.run.ensures in
    record {
      ends = (c.run.result, c.code.ensures, r.ends, r.early, r.cause);
      stays = r.stays;
      source_stays = r.source_stays;
      sink_stays = r.sink_stays;
    }
