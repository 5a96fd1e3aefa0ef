-- All definitions that the contracts of the top call are made of, in reading order: from the lines of a text to what is seen of a run.

-- Lines, pieces, tokens and syntax of a text
pub use Rattle.ec_language.specs.Letters
pub use Rattle.ec_language.specs.Line
pub use Rattle.ec_language.specs.CText
pub use Rattle.ec_language.specs.Pieces
pub use Rattle.ec_language.specs.PieceFaults
pub use Rattle.ec_language.specs.Keywords
pub use Rattle.ec_language.specs.Constants
pub use Rattle.ec_language.specs.Lexemes
pub use Rattle.ec_language.specs.SqlText
pub use Rattle.ec_language.specs.SqlTokens
pub use Rattle.ec_language.specs.Tokens
pub use Rattle.ec_language.specs.Productions
pub use Rattle.ec_language.specs.Grammar
pub use Rattle.ec_language.specs.Unlimited
pub use Rattle.ec_language.specs.Syntax
pub use Rattle.ec_language.specs.First as Reading
-- Types and trees
pub use Rattle.ec_ctypes.specs.Arithmetic
pub use Rattle.ec_ctypes.specs.Layout
pub use Rattle.ec_ctypes.specs.SqlcaStructs
pub use Rattle.ec_ctypes.specs.trees
pub use Rattle.ec_ctypes.specs.views
-- Embedded statements, and what is sent of them
pub use Rattle.ec_embedded.specs.References
pub use Rattle.ec_embedded.specs.Connections
pub use Rattle.ec_embedded.specs.ServerText
pub use Rattle.ec_embedded.specs.Dynamic
pub use Rattle.ec_embedded.specs.Descriptors
pub use Rattle.ec_embedded.specs.Directives
pub use Rattle.ec_embedded.specs.LeftOut
pub use Rattle.ec_embedded.specs.Findings
pub use Rattle.ec_embedded.specs.Answers as EmbeddedStatements
pub use Rattle.ec_embedded.specs.Parameters
-- Violations: what is found out about a program, and faults of hosts; the first of all
pub use Rattle.ec_base.specs.Numbers
pub use Rattle.ec_typing_defs.specs.Worlds
pub use Rattle.ec_typing_defs.specs.Types
pub use Rattle.ec_typing_defs.specs.Constants as ConstantExpressions
pub use Rattle.ec_typing_defs.specs.Operands
pub use Rattle.ec_typing_defs.specs.Expressions as CheckedExpressions
pub use Rattle.ec_typing_defs.specs.Initializers as CheckedInitializers
pub use Rattle.ec_typing_defs.specs.Statements as CheckedStatements
pub use Rattle.ec_typing_defs.specs.Embedded as CheckedEmbedded
pub use Rattle.ec_typing_defs.specs.Programs as CheckedPrograms
pub use Rattle.ec_typing_defs.specs.Answers as Checks
pub use Rattle.ec_typing_defs.specs.Library
pub use Rattle.ec_host_defs.specs.sections
pub use Rattle.ec_host_defs.specs.Faults as HostFaults
pub use Rattle.ec_phases_defs.specs.Sources
pub use Rattle.ec_phases_defs.specs.written
pub use Rattle.ec_phases_defs.specs.First
-- Hosts, cursors and handlers
pub use Rattle.ec_host_defs.specs.Elements
pub use Rattle.ec_host_defs.specs.Leaves
pub use Rattle.ec_host_defs.specs.Places
pub use Rattle.ec_host_defs.specs.Bound
pub use Rattle.ec_typing_defs.specs.statement_parts
-- The written program, its text, and the arguments of its calls
pub use Rattle.ec_expansion_defs.specs.Calls
pub use Rattle.ec_expansion_defs.specs.Handlers as WrittenHandlers
pub use Rattle.ec_expansion_defs.specs.Statements as WrittenStatements
pub use Rattle.ec_expansion_defs.specs.Declarations as WrittenDeclarations
pub use Rattle.ec_expansion_defs.specs.Programs as WrittenPrograms
pub use Rattle.ec_writing_defs.specs.Chunks
pub use Rattle.ec_writing_defs.specs.Expressions as WrittenExpressions
pub use Rattle.ec_writing_defs.specs.Programs as WrittenTexts
pub use Rattle.ec_phases_defs.specs.translation
pub use Rattle.ec_arguments.specs.Arguments
pub use Rattle.ec_arguments.specs.Rules as ArgumentRules
-- Memory, conversion, and the communication area
pub use Rattle.ec_memory_defs.specs.Cells
pub use Rattle.ec_memory_defs.specs.Memory
pub use Rattle.ec_transfer_defs.specs.Hosts
pub use Rattle.ec_transfer_defs.specs.Conversion
pub use Rattle.ec_transfer_defs.specs.Codes
pub use Rattle.ec_transfer_defs.specs.Area
-- Resolved programs, the state of a run, and its evaluation
pub use Rattle.ec_meaning_defs.specs.resolved
pub use Rattle.ec_resolving_defs.specs.Programs as Resolving
pub use Rattle.ec_meaning_defs.specs.functions
pub use Rattle.ec_meaning_defs.specs.evaluation
-- The direct step, and the direct meaning
pub use Rattle.ec_direct_defs.specs.Leaves as DirectLeaves
pub use Rattle.ec_direct_defs.specs.Places as DirectPlaces
pub use Rattle.ec_direct_defs.specs.Statements as DirectStatements
pub use Rattle.ec_direct_defs.specs.Hosts as DirectHosts
pub use Rattle.ec_direct_defs.specs.Names as DirectNames
pub use Rattle.ec_direct_defs.specs.Texts as DirectTexts
pub use Rattle.ec_direct_defs.specs.Requests as DirectRequests
pub use Rattle.ec_direct_defs.specs.Connections as DirectConnections
pub use Rattle.ec_direct_defs.specs.Marks as DirectMarks
pub use Rattle.ec_direct_defs.specs.Prepared as DirectPrepared
pub use Rattle.ec_direct_defs.specs.Descriptors as DirectDescriptors
pub use Rattle.ec_direct_defs.specs.Inputs as DirectInputs
pub use Rattle.ec_direct_defs.specs.Storing as DirectStoring
pub use Rattle.ec_direct_defs.specs.Executing
pub use Rattle.ec_direct_defs.specs.Handling
pub use Rattle.ec_direct_defs.specs.Direct
-- Calls of the library, and the written meaning
pub use Rattle.ec_call_defs.specs.Inputs as CallInputs
pub use Rattle.ec_call_defs.specs.Storing as CallStoring
pub use Rattle.ec_call_defs.specs.Answers as CallAnswers
pub use Rattle.ec_call_defs.specs.Areas
pub use Rattle.ec_call_defs.specs.Connections as OpenConnections
pub use Rattle.ec_call_defs.specs.Library as LibraryCalls
pub use Rattle.ec_call_defs.specs.Steps
pub use Rattle.ec_execution_defs.specs.Programs as Executables
pub use Rattle.ec_direct_defs.specs.simulation
-- What is seen of a run; logs and slots
pub use Rattle.ec_meaning_defs.specs.observed
pub use Rattle.ec_execution_defs.specs.Runs
pub use Rattle.ec_base.specs.Causes
pub use Rattle.ec_link.specs.Logged
pub use Rattle.ec_link.specs.SlotState
pub use Rattle.ec_link.specs.Told
