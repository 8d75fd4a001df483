use Rattle.std.proofs.Common.{arith}
use Rattle.rv_asm.proofs.Found.{defined, same_entries}
use Rattle.rv_asm.proofs.label_table.LabelTable.define.Goals as goal

pub invariant_of-self-in_err-insert : goal.invariant_of-self-in_err-insert
invariant_of-self-in_err-insert c =
    rw c.reserve.ensures.items (same_entries _ c.self.inside.places c.insert.new.self c.in_err-insert.ensures.err c.self.invariant)

pub invariant_of-self-2 : goal.invariant_of-self-2
invariant_of-self-2 c =
    rw (c.push_reserved.ensures.items, c.reserve.ensures.items)
    (defined c.self.inside.list.items _ c.args.name.now c.in_ok-key.key.items c.len.result c.self.inside.places c.insert.new.self c.in_ok-name_of.ensures
    c.in_ok-key.ensures.items
    (omega (arith, c.len.ensures, c.reserve.ensures.len, c.self.inside.list.ok.0)) c.self.invariant (rw c.self.view_is c.requires.unknown)
    c.in_ok-insert.ensures.updates)
