use Rattle.markdown_run.proofs.run.run_through.Goals as goal

pub resolve_all-requires : goal.resolve_all-requires
resolve_all-requires c = c.requires.passes c.in_ok-run_state.field-0 c.run_state.new.self c.in_ok-run_state.ensures.ends

pub returns : goal.returns
returns c =
    record {
      held = c.in_ok-run_state.field-0;
      left = c.run_state.new.self;
      ends = c.in_ok-run_state.ensures.ends;
      found = record {
        passed = c.resolve_all.new.self;
        resolves = c.in_ok-resolve_all.ensures.ok;
        events = c.found_in.ensures.events;
        probes = c.found_in.ensures.probes;
      };
    }
