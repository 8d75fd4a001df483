use Rattle.asm_listing.proofs.labels.put_labels.Goals as goal

pub put_each-requires : goal.put_each-requires
put_each-requires g c = record { all = c.args.symbols.now; are = c.symbols_of_value.ensures }
