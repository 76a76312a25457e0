-- The parts of a form as they are held.
use Rattle.http_form.specs.declared.layout.Layout.{Layout}
use Rattle.http_form.specs.Form.{Laid}

abbrev pub laid_of : Layout → Laid
laid_of layout = record { lines = layout.lines.now; body = layout.body.now }
