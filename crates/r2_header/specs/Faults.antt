-- The faults of a header as a person reads them.
use Rattle.std.specs.Prelude.{ℕ, List, codes}
use Rattle.r2_header.specs.declared.header_fault.HeaderFault.{HeaderFault}
use Rattle.r2_header.specs.declared.header_fault.HeaderFault.TheVariants.{Short, Magic, Size, TypeOrPolicy, Flags, Count, Extension}

-- why bytes don't begin with a header
abbrev pub fault_text : HeaderFault → List ℕ
fault_text Short = codes "the header is cut short"
fault_text Magic = codes "the first byte isn't 0x52"
fault_text Size = codes "the header's size is neither 8 nor 16"
fault_text TypeOrPolicy = codes "no such type, policy, size and request id of a packet"
fault_text Flags = codes "the flags don't fit the type"
fault_text Count = codes "the count or number of the part is out of range"
fault_text Extension = codes "the header's last two bytes aren't zero"
