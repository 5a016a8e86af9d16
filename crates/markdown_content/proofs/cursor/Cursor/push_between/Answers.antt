use Rattle.std.proofs.Common.{◌≡◌, ◌++◌, subst, OnOk}
use Rattle.markdown_content.specs.ContentBytes.{bytes_within}
use Rattle.markdown_content.specs.Place.{Place, start_of_content}
use Rattle.markdown_content.proofs.cursor.Cursor.push_between.Goals as goal

pub returns : goal.returns
unfolding start_of_content
returns c =
    subst (λ (p : Place). OnOk c.push_between.result (c.push_between.new.out.items ≡ c.args.out.now.items ++ bytes_within c.args.text.now c.args.from c.args.to p.codes)) c.self.view_is c.push_between.ensures
