-- The instruction formats: what each field of a word holds (RISC-V Unprivileged ISA Manual, "RV32I Base Integer
-- Instruction Set", Base Instruction Formats).
use Rattle.std.specs.Prelude.{◌≡◌, ℕ, ℤ, pos}
use Rattle.rv_inst.specs.Fields.{opcode, rd_of, funct3, rs1_of, rs2_of, funct7, high12, imm_i, imm_s, imm_b, imm_u, imm_j}

-- R-type: two source registers and a destination
pub record IsRType (w opc f3 f7 rd rs1 rs2 : ℕ) : Type 0 where
  pub opcode_is : opcode w ≡ opc
  pub funct3_is : funct3 w ≡ f3
  pub funct7_is : funct7 w ≡ f7
  pub rd_is : rd ≡ rd_of w
  pub rs1_is : rs1 ≡ rs1_of w
  pub rs2_is : rs2 ≡ rs2_of w

-- I-type: a source register, a destination and a 12-bit immediate
pub record IsIType (w opc f3 rd rs1 : ℕ) (imm : ℤ) : Type 0 where
  pub opcode_is : opcode w ≡ opc
  pub funct3_is : funct3 w ≡ f3
  pub rd_is : rd ≡ rd_of w
  pub rs1_is : rs1 ≡ rs1_of w
  pub imm_is : imm ≡ imm_i w

-- the I-type of a shift by a constant: the amount is in the field of rs2
pub record IsShiftType (w opc f3 f7 rd rs1 : ℕ) (amount : ℤ) : Type 0 where
  pub opcode_is : opcode w ≡ opc
  pub funct3_is : funct3 w ≡ f3
  pub funct7_is : funct7 w ≡ f7
  pub rd_is : rd ≡ rd_of w
  pub rs1_is : rs1 ≡ rs1_of w
  pub amount_is : amount ≡ pos (rs2_of w)

-- the I-type of a fence: its upper twelve bits are one field
pub record IsFenceType (w opc f3 rd rs1 imm : ℕ) : Type 0 where
  pub opcode_is : opcode w ≡ opc
  pub funct3_is : funct3 w ≡ f3
  pub rd_is : rd ≡ rd_of w
  pub rs1_is : rs1 ≡ rs1_of w
  pub imm_is : imm ≡ high12 w

-- S-type: two source registers and a 12-bit immediate
pub record IsSType (w opc f3 rs1 rs2 : ℕ) (imm : ℤ) : Type 0 where
  pub opcode_is : opcode w ≡ opc
  pub funct3_is : funct3 w ≡ f3
  pub rs1_is : rs1 ≡ rs1_of w
  pub rs2_is : rs2 ≡ rs2_of w
  pub imm_is : imm ≡ imm_s w

-- B-type: two source registers and an even 13-bit offset
pub record IsBType (w opc f3 rs1 rs2 : ℕ) (imm : ℤ) : Type 0 where
  pub opcode_is : opcode w ≡ opc
  pub funct3_is : funct3 w ≡ f3
  pub rs1_is : rs1 ≡ rs1_of w
  pub rs2_is : rs2 ≡ rs2_of w
  pub imm_is : imm ≡ imm_b w

-- U-type: a destination and the upper twenty bits
pub record IsUType (w opc rd imm : ℕ) : Type 0 where
  pub opcode_is : opcode w ≡ opc
  pub rd_is : rd ≡ rd_of w
  pub imm_is : imm ≡ imm_u w

-- J-type: a destination and an even 21-bit offset
pub record IsJType (w opc rd : ℕ) (imm : ℤ) : Type 0 where
  pub opcode_is : opcode w ≡ opc
  pub rd_is : rd ≡ rd_of w
  pub imm_is : imm ≡ imm_j w

-- a word by its six plain fields, from the lowest bit up
pub record HasFields (w opc rd f3 rs1 rs2 f7 : ℕ) : Type 0 where
  pub opcode_is : opcode w ≡ opc
  pub rd_is : rd_of w ≡ rd
  pub funct3_is : funct3 w ≡ f3
  pub rs1_is : rs1_of w ≡ rs1
  pub rs2_is : rs2_of w ≡ rs2
  pub funct7_is : funct7 w ≡ f7
