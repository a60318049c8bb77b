-- What the first 8 bytes of a block say, in a section header the first 12. Places are counted in
-- bytes from 0.
use Rattle.std.specs.Prelude.{◌≡◌, ℕ, ◌%◌, ◌≤◌, ⊤, Bool, true, false, ◌&&◌, ◌==◌, nat_le, nat_lt}
use Rattle.std.specs.Prelude.{if◌then◌else◌, List, length, Option, None, Some}
use Rattle.pcapng_blocks.specs.declared.byte_order.Order.{Order}
use Rattle.pcapng_blocks.specs.declared.byte_order.Order.TheVariants.{Little, Big}
use Rattle.pcapng_blocks.specs.declared.error.BlockError.TheVariants.{BadMagic, BadLength}
use Rattle.pcapng_blocks.specs.declared.heads.Kind.{Kind}
use Rattle.pcapng_blocks.specs.declared.heads.Kind.TheVariants.{Section, Interface, Enhanced}
use Rattle.pcapng_blocks.specs.declared.heads.Kind.TheVariants.{Simple, Other}
use Rattle.pcapng_blocks.specs.declared.heads.Head.{Head}
use Rattle.pcapng_blocks.specs.declared.heads.Look.{Look}
use Rattle.pcapng_blocks.specs.declared.heads.Look.TheVariants.{Short, Bad, Headed}
use Rattle.pcapng_blocks.specs.Numbers.{number_at}

-- what a block is, by its type; the type of a section header reads the same in either byte order
abbrev pub kind_of : ℕ → Kind
kind_of number =
    if number == 0x0a0d0d0a then Section
    else if number == 1 then Interface
    else if number == 6 then Enhanced
    else if number == 3 then Simple
    else Other

-- the number of bytes that a block's head needs
abbrev pub head_size : Kind → ℕ
head_size Section = 12
head_size Interface = 8
head_size Enhanced = 8
head_size Simple = 8
head_size Other = 8

-- the least total length of a block
abbrev pub least : Kind → ℕ
least Section = 28
least Interface = 20
least Enhanced = 32
least Simple = 16
least Other = 12

-- blocks of other types are skipped
abbrev pub is_skipped : Kind → Bool
is_skipped Section = false
is_skipped Interface = false
is_skipped Enhanced = false
is_skipped Simple = false
is_skipped Other = true

-- a block may have this total length; one that is skipped may have more than 524,288 bytes
abbrev pub length_fits : Kind → ℕ → Bool
length_fits kind total =
    (total % 4 == 0)
    && (nat_le (least kind) total && (if is_skipped kind then true else nat_le total 524288))

-- the byte order that a section's magic says
abbrev pub order_by_magic : List ℕ → Option Order
order_by_magic bytes =
    if number_at Little 4 8 bytes == 0x1a2b3c4d then Some Little
    else if number_at Big 4 8 bytes == 0x1a2b3c4d then Some Big
    else None

-- the byte order of a block: that of its section, which a section header states itself
abbrev pub order_of : Kind → Order → List ℕ → Option Order
order_of Section order bytes = order_by_magic bytes
order_of Interface order bytes = Some order
order_of Enhanced order bytes = Some order
order_of Simple order bytes = Some order
order_of Other order bytes = Some order

-- a block with its head at a place, by its byte order
abbrev pub headed : ℕ → Kind → Option Order → List ℕ → Look
headed place kind None bytes = Bad BadMagic
headed place kind (Some order) bytes =
    if length_fits kind (number_at order 4 4 bytes)
    then Headed (record { kind = kind; order = order; total = number_at order 4 4 bytes })
    else Bad (BadLength place)

abbrev pub look_as : Kind → Order → ℕ → List ℕ → Look
look_as kind order place bytes =
    if nat_lt (length bytes) (head_size kind) then Short
    else headed place kind (order_of kind order bytes) bytes

-- what the bytes from a place on begin with, in a section of this byte order
unfoldable pub look_at : Order → ℕ → List ℕ → Look
look_at order place bytes =
    if nat_lt (length bytes) 8 then Short
    else look_as (kind_of (number_at order 4 0 bytes)) order place bytes

-- a block with its head has at least the least total length of its kind, which is at least 12
pub record IsHead (head : Head) : Type 0 where
  pub enough : least head.kind ≤ head.total
  pub some : 12 ≤ head.total
  pub few : is_skipped head.kind ≡ false → head.total ≤ 524288

abbrev pub HasTotal : Look → Type 0
HasTotal Short = ⊤
HasTotal (Bad error) = ⊤
HasTotal (Headed head) = IsHead head
