use Rattle.std.proofs.Common.{◌∙◌, ap, length}
use Rattle.markdown_page.proofs.NextItems.{places-length}
use Rattle.markdown_page.proofs.lists.places.Goals as goal

pub end_lists-requires : goal.end_lists-requires
end_lists-requires c = ap length c.in_ok-places.ensures ∙ places-length c.args.document.now c.args.rows.now c.requires
