use Rattle.mt_http.proofs.ReadMessage.{received_whole, received_end, no_head_received}
use Rattle.mt_http.proofs.receive.read_message.Goals as goal

pub returns-in-Err-clause-read : goal.returns-in-Err-clause-read
returns-in-Err-clause-read g c = no_head_received _ _ c.in-Err.end _ _ c.in-Err.ensures.read

pub returns-in-Ok-read_body-clause-read : goal.returns-in-Ok-read_body-clause-read
returns-in-Ok-read_body-clause-read g c =
    let head = c.in-Ok.ensures.read in
    received_whole _ _ head.0.0 c.in-Ok.head _ _ head.0.1 head.1 head.0.2 c.in-Ok-read_body.body _ _ c.in-Ok-read_body.ensures.read

pub returns-in-Err-read_body-clause-read : goal.returns-in-Err-read_body-clause-read
returns-in-Err-read_body-clause-read g c =
    let head = c.in-Ok.ensures.read in
    received_end _ _ head.0.0 c.in-Ok.head _ _ head.0.1 head.1 head.0.2 c.in-Err-read_body.end _ _ c.in-Err-read_body.ensures.read
