-- `entries::write_fresh`: all cells 0, and then the four writes.
use Rattle.std.proofs.Common.{rules}
use Rattle.entries.proofs.Freshly.{fresh_written}
use Rattle.entries.proofs.write_fresh.Goals as goal

pub returns : goal.returns
returns c =
    fresh_written c.args.cells.now c.fill.new.self c.to_objects.new.cells c.to_calls.new.cells c.new_object.new.cells c.new_call.new.cells c.requires
    (c.fill.ensures.after (λ y e. e)) c.to_objects.ensures c.to_calls.ensures (search rules) (search rules)
