use Rattle.std.proofs.Common.{ap, refl}
use Rattle.markdown_attention.specs.PairScan.{Walk}
use Rattle.markdown_attention.proofs.PairsToEdits.{numbered-in, openers-in, room-in, can-in, grouped-in}
use Rattle.markdown_attention.proofs.attention.grouping.pair_and_group.Goals as goal

pub group_runs-requires-clause-numbered : goal.group_runs-requires-clause-numbered
group_runs-requires-clause-numbered c =
    numbered-in c.args.tokenizer.now c.new.new.tokenizer c.in_ok-runs.ensures.same c.requires c.in_ok-runs.runs.list c.in_ok-pairing.pairing.runs.items c.in_ok-pairing.pairing.runs.items c.in_ok-pairing.pairing.pairs.items c.in_ok-pairing.pairing.pairs.items c.in_ok-pairing.pairing.probes (ap (λ (w : Walk). w.list) c.in_ok-runs.ensures.runs) c.in_ok-pairing.ensures.pairing refl refl

pub group_runs-requires-clause-openers : goal.group_runs-requires-clause-openers
group_runs-requires-clause-openers c =
    openers-in c.args.tokenizer.now c.new.new.tokenizer c.in_ok-runs.ensures.same c.requires c.in_ok-runs.runs.list c.in_ok-pairing.pairing.runs.items c.in_ok-pairing.pairing.runs.items c.in_ok-pairing.pairing.pairs.items c.in_ok-pairing.pairing.pairs.items c.in_ok-pairing.pairing.probes (ap (λ (w : Walk). w.list) c.in_ok-runs.ensures.runs) c.in_ok-pairing.ensures.pairing refl refl

pub group_runs-requires-clause-room : goal.group_runs-requires-clause-room
group_runs-requires-clause-room c =
    room-in c.args.tokenizer.now c.new.new.tokenizer c.in_ok-runs.ensures.same c.requires c.in_ok-runs.runs.list c.in_ok-pairing.pairing.runs.items c.in_ok-pairing.pairing.runs.items c.in_ok-pairing.pairing.pairs.items c.in_ok-pairing.pairing.pairs.items c.in_ok-pairing.pairing.probes (ap (λ (w : Walk). w.list) c.in_ok-runs.ensures.runs) c.in_ok-pairing.ensures.pairing refl refl

pub group_runs-requires-clause-can : goal.group_runs-requires-clause-can
group_runs-requires-clause-can c =
    can-in c.args.tokenizer.now c.new.new.tokenizer c.in_ok-runs.ensures.same c.requires c.in_ok-runs.runs.list c.in_ok-pairing.pairing.runs.items c.in_ok-pairing.pairing.runs.items c.in_ok-pairing.pairing.pairs.items c.in_ok-pairing.pairing.pairs.items c.in_ok-pairing.pairing.probes (ap (λ (w : Walk). w.list) c.in_ok-runs.ensures.runs) c.in_ok-pairing.ensures.pairing refl refl

pub returns-clause-grouped : goal.returns-clause-grouped
returns-clause-grouped c =
    grouped-in c.args.tokenizer.now c.new.new.tokenizer c.in_ok-runs.ensures.same c.requires c.in_ok-runs.runs.list c.in_ok-pairing.pairing.runs.items c.in_ok-pairing.pairing.runs.items c.in_ok-pairing.pairing.pairs.items c.in_ok-pairing.pairing.pairs.items c.in_ok-pairing.pairing.probes (ap (λ (w : Walk). w.list) c.in_ok-runs.ensures.runs) c.in_ok-pairing.ensures.pairing refl refl c.group_runs.new.events c.in_ok-group_runs.ensures.edited

pub group_runs-requires-clause-order : goal.group_runs-requires-clause-order
group_runs-requires-clause-order c = c.in_ok-pairing.ensures.order
