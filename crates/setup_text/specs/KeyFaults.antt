-- The fault of a key, as a fault of the setup.
use Rattle.flow_hash.specs.declared.hash_keys.KeyError.{KeyError}
use Rattle.flow_hash.specs.declared.hash_keys.KeyError.TheVariants as key
use Rattle.setup_text.specs.declared.setup_error.SetupKind.{SetupKind}
use Rattle.setup_text.specs.declared.setup_error.SetupKind.TheVariants.{BadNumber, Memory}

abbrev pub key_fault : KeyError → SetupKind
key_fault key.NotHex = BadNumber
key_fault key.WrongLength = BadNumber
key_fault key.Memory = Memory
