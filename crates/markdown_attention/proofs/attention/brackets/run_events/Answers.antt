use Rattle.markdown_attention.proofs.BracketAppends.{all-events}
use Rattle.markdown_attention.proofs.attention.brackets.run_events.Goals as goal

pub returns : goal.returns
returns c =
    all-events c.args.marker c.args.from c.in_ok-data.data c.in_ok-openings.openings c.args.fronts.now c.args.backs.now c.args.kept c.clear.new.self.items c.push_closings.new.events.items c.push_data.new.events.items c.push_openings.new.events.items
    c.clear.ensures.items c.in_ok-data.ensures.end c.in_ok-openings.ensures.end c.in_ok-data.ensures.events c.in_ok-openings.ensures.events c.in_ok-push_openings.ensures
