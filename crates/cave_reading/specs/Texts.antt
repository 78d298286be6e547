-- What is printed of a block's name and of a fault of building: the words of docs/FORMATS.md.
use Rattle.std.specs.Prelude.{ℕ, List, [], ◌∷◌, ◌++◌, ◌&&◌, ◌+◌, ◌/◌, ◌%◌, nat_eq, nat_le, codes, flat_map}
use Rattle.std.specs.Prelude.{if◌then◌else◌}
use Rattle.cave_reading.specs.declared.fault.BuildFault.{BuildFault}
use Rattle.cave_reading.specs.declared.fault.BuildFault.TheVariants.{UnknownBlock, OutOfMemory}

-- the digit of a number below 16: 0 to 9, then a to f
abbrev pub hex_digit : ℕ → ℕ
hex_digit n = if nat_le 10 n then 87 + n else 48 + n

-- the two digits of a byte by sixteen
abbrev pub two_digits : ℕ → List ℕ
two_digits byte = hex_digit (byte / 16) ∷ hex_digit (byte % 16) ∷ []

-- a byte of a name: printable ASCII other than the backslash as it is, any other byte as `\x` and two digits
abbrev pub shown_byte : ℕ → List ℕ
shown_byte byte = if nat_eq byte 92 then codes "\\x5c" else
    (if nat_le 32 byte && nat_le byte 126 then byte ∷ [] else codes "\\x" ++ two_digits byte)

-- a name as it is printed
abbrev pub shown_name : List ℕ → List ℕ
shown_name name = flat_map shown_byte name

-- the text of a fault
abbrev pub fault_text : BuildFault → List ℕ
fault_text (UnknownBlock index name) = codes "unknown block " ++ shown_name name
fault_text OutOfMemory = codes "out of memory"
