use Rattle.std.proofs.Common.{◌≡◌, ℕ, List, ◌∷◌, ap, ◌∙◌}
use Rattle.json.specs.Print.{escape}
use Rattle.mt_path.specs.AccountPath.{area_name}
use Rattle.mt_jobtext.proofs.PathTexts.{path_escaped}
use Rattle.mt_jobtext.proofs.Windows.{puts_more, puts_same}
use Rattle.mt_jobtext.proofs.names.put_path.Goals as goal

-- the login, the area and the key, each behind a slash
pub returns : goal.returns
returns c =
    let area : c.as_bytes-2.result.now ≡ area_name c.args.path.now.area = c.as_bytes-2.ensures.value ∙ c.name.ensures ∙ ap area_name c.area.ensures in
    puts_same
    (puts_more (puts_same c.put_part.ensures (ap (λ (name : List ℕ). escape (47 ∷ name)) c.as_bytes.ensures.value)) (puts_more c.put_part-2.ensures c.put_key.ensures))
    (path_escaped c.args.login.now c.as_bytes-2.result.now c.key.result.now c.args.path.now area c.key.ensures.value c.key.ensures.path)
