-- The instructions that every drawn program has.
use Rattle.std.proofs.Common.{refl}
use Rattle.rv_text.specs.Fields.{register_in_text, number_operand, immediate_of, offset_in, base_in}
use Rattle.rv_text.specs.Names.{mnemonic_named}
use Rattle.rv_text.specs.Numbers.{is_numeral, numeral, magnitude, number_of}
use Rattle.rv_text.specs.Pieces.{without_front, without_end, trimmed, name_part, operand_part, operand_count, operand_at}
use Rattle.rv_text.specs.Reading.{takes_operands, address_form, immediate_form, register_form, branch_form, operands_read, statement_by}
use Rattle.rv_text.specs.Registers.{register_numbered, register_padded, register_of}
use Rattle.rv_asm.specs.Operands.{count_is}
use Rattle.rv_asm.specs.Operations.{directive_named, pseudo_named}
use Rattle.rv_asm.specs.Pseudos.{word_modulo, loading, reached, jumped, load_immediate, address_read, branch_read, pseudo_read}
use Rattle.rv_asm.specs.Reading.{instruction_read, named_read, statement_read}
use Rattle.rv_asm.specs.Scanning.{is_name_start, is_name_byte, quote_after, said, has_label, label_in, statement_in}
use Rattle.asm_drawn.proofs.Blocks.{IsCode, AreCode}
use Rattle.asm_drawn.proofs.Fixed.{gathering, converting, writing, buffer_line, buffer_line_is}

pub buffer_code : IsCode buffer_line
buffer_code = record { entry = buffer_line_is; label = refl; code = refl }

pub gathering_code : AreCode gathering
unfolding said label_in statement_in has_label is_name_start is_name_byte quote_after trimmed without_front without_end name_part
    operand_part operand_count operand_at statement_read named_read directive_named pseudo_named mnemonic_named pseudo_read address_read
    load_immediate loading word_modulo reached count_is register_in_text register_of register_padded register_numbered number_operand number_of
    magnitude numeral is_numeral instruction_read statement_by takes_operands operands_read register_form
gathering_code = (
  record { entry = record { plain = refl; label = refl; item = λ pc. refl }; label = refl; code = refl },
  (
    record { entry = record { plain = refl; label = refl; item = λ pc. refl }; label = refl; code = refl },
    (
      record { entry = record { plain = refl; label = refl; item = λ pc. refl }; label = refl; code = refl },
      (
        record { entry = record { plain = refl; label = refl; item = λ pc. refl }; label = refl; code = refl },
        (
          record { entry = record { plain = refl; label = refl; item = λ pc. refl }; label = refl; code = refl },
          (
            record { entry = record { plain = refl; label = refl; item = λ pc. refl }; label = refl; code = refl },
            (
              record { entry = record { plain = refl; label = refl; item = λ pc. refl }; label = refl; code = refl },
              (
                record { entry = record { plain = refl; label = refl; item = λ pc. refl }; label = refl; code = refl },
                (record { entry = record { plain = refl; label = refl; item = λ pc. refl }; label = refl; code = refl }, tt),
              ),
            ),
          ),
        ),
      ),
    ),
  ),
)

pub converting_code : AreCode converting
unfolding said label_in statement_in has_label is_name_start is_name_byte quote_after trimmed without_front without_end name_part
    operand_part operand_count operand_at statement_read named_read directive_named pseudo_named mnemonic_named pseudo_read load_immediate
    loading word_modulo jumped count_is register_in_text register_of register_padded register_numbered number_operand number_of magnitude numeral
    is_numeral instruction_read statement_by takes_operands operands_read immediate_form immediate_of branch_form
converting_code = (
  record { entry = record { plain = refl; label = refl; item = λ pc. refl }; label = refl; code = refl },
  (
    record { entry = record { plain = refl; label = refl; item = λ pc. refl }; label = refl; code = refl },
    (
      record { entry = record { plain = refl; label = refl; item = λ pc. refl }; label = refl; code = refl },
      (
        record { entry = record { plain = refl; label = refl; item = λ pc. refl }; label = refl; code = refl },
        (
          record { entry = record { plain = refl; label = refl; item = λ pc. refl }; label = refl; code = refl },
          (record { entry = record { plain = refl; label = refl; item = λ pc. refl }; label = refl; code = refl }, tt),
        ),
      ),
    ),
  ),
)

pub writing_code : AreCode writing
unfolding said label_in statement_in has_label is_name_start is_name_byte quote_after trimmed without_front without_end name_part
    operand_part operand_count operand_at statement_read named_read directive_named pseudo_named mnemonic_named pseudo_read address_read
    branch_read load_immediate loading word_modulo reached jumped count_is register_in_text register_of register_padded register_numbered
    number_operand number_of magnitude numeral is_numeral instruction_read statement_by takes_operands operands_read immediate_form immediate_of
    address_form offset_in base_in
writing_code = (
  record { entry = record { plain = refl; label = refl; item = λ pc. refl }; label = refl; code = refl },
  (
    record { entry = record { plain = refl; label = refl; item = λ pc. refl }; label = refl; code = refl },
    (
      record { entry = record { plain = refl; label = refl; item = λ pc. refl }; label = refl; code = refl },
      (
        record { entry = record { plain = refl; label = refl; item = λ pc. refl }; label = refl; code = refl },
        (
          record { entry = record { plain = refl; label = refl; item = λ pc. refl }; label = refl; code = refl },
          (
            record { entry = record { plain = refl; label = refl; item = λ pc. refl }; label = refl; code = refl },
            (
              record { entry = record { plain = refl; label = refl; item = λ pc. refl }; label = refl; code = refl },
              (
                record { entry = record { plain = refl; label = refl; item = λ pc. refl }; label = refl; code = refl },
                (
                  record { entry = record { plain = refl; label = refl; item = λ pc. refl }; label = refl; code = refl },
                  (
                    record { entry = record { plain = refl; label = refl; item = λ pc. refl }; label = refl; code = refl },
                    (
                      record { entry = record { plain = refl; label = refl; item = λ pc. refl }; label = refl; code = refl },
                      (record { entry = record { plain = refl; label = refl; item = λ pc. refl }; label = refl; code = refl }, tt),
                    ),
                  ),
                ),
              ),
            ),
          ),
        ),
      ),
    ),
  ),
)
