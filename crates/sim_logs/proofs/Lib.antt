mod LogReads
