use Rattle.std.proofs.Common.{[], ap, ◌∙◌}
use Rattle.weed_base.specs.Path.{text_of}
use Rattle.name_core.specs.RecordText.{directory_of}
use Rattle.records.specs.RecordText.{notification_text}
use Rattle.records.proofs.Sizes.{as_bytes}
use Rattle.records.proofs.counting.change_size.Goals as goal

pub returns : goal.returns
returns c =
    let path = as_bytes _ [] 1 _ _ (c.directory_text.ensures.text ∙ ap (λ p. text_of (directory_of p)) c.path.ensures) (c.bytes.ensures [] c.none-text.ensures) in
    c.message.ensures _ (notification_text c.args.change.now) path c.notification_size.ensures
